-- A part, a statement, and what is told at their node.
use Rattle.std.proofs.Common.{◌≡◌, ℕ, ◌<◌, length, refl, sym, ap, ◌∙◌, subst}
use Rattle.std.specs.Prelude.{Result, Ok, Err}
use Rattle.c_ast.specs.Trees.{ExprTree, StatementTree, Do, IfElse}
use Rattle.c_symbols.specs.Scoping.{Scoping}
use Rattle.c_types.specs.CType.{CType}
use Rattle.c_types.specs.Table.{Table}
use Rattle.c_meaning.specs.CoreTrees.{CoreOf, IsIn}
use Rattle.c_meaning.specs.StmtTrees.{StmtOf, stmt_of}
use Rattle.c_meaning.specs.StmtTrees as code
use Rattle.c_meaning.specs.Typing.{Outcome, then_do}
use Rattle.c_meaning.specs.Values.{value}
use Rattle.c_meaning.specs.declared.core_stmt.CoreStmt.{CoreStmt}
use Rattle.c_values.specs.Stays.{extends_on, seen_stays}
use Rattle.c_values.specs.declared.check_fault.CheckFault.{CheckFault}
use Rattle.c_check_expr.specs.Known.{AreSymbolsIn}
use Rattle.c_check_expr.specs.TypedIn.{expr_in}
use Rattle.c_check_expr.specs.Walks.{Walks, core}
use Rattle.c_check_decl.specs.Declares.{stmt_in}
use Rattle.c_check_decl.proofs.lemmas.StmtsStay.{stmt_stays}
use Rattle.c_units.specs.Bodies.{Typed, at_stmt, done, in_loop, on_code}
use Rattle.c_units.specs.Statements.{Around as AroundTrees, StmtNode}
use Rattle.c_units.specs.Statements as node
use Rattle.c_stmt_parts.specs.declared.around.Within.{Within}
use Rattle.c_stmt_parts.specs.declared.body.Body.{Body}
use Rattle.c_stmt_parts.specs.BodiesSeen.{IsBodyIn, body_in, within_in}
use Rattle.c_stmt_parts.proofs.lemmas.BodiesStay.{body_later, body_stays}
use Rattle.c_stmt_parts.specs.StatementsIn.{WalksStmt, code_in, statement_in}
use Rattle.c_stmt_parts.proofs.lemmas.BehindWalks.{do_behind, do_rest_is, else_behind_first, else_parts, later, same}
use Rattle.c_stmt_parts.proofs.lemmas.StatementNodes.{beside}
use Rattle.c_stmt_parts.proofs.lemmas.StatementWalks.{Parts, parts_go, parts_told, single_goes, single_told, walk_nothing}
use Rattle.c_check_stmt.specs.Ends.{Ends}
use Rattle.c_check_stmt.proofs.Shapes.{three_same, two_same}

-- ---- a part before a statement

module _ {V T : Type 0} {view : Table → V → T} {IsPart : ℕ → V → Type 0} {w : Within} {s : Scoping} {a : Table} {whole : Outcome (Typed (StmtOf CType))} (k : Parts T w a whole)
    {m : Scoping} {t : Table} {v : V} (x : Body) (below : w.result < length a.forms) (first : Walks view IsPart k.o s a m t (Ok v)) (started : body_in t x ≡ k.before (view t v))
    {u : Scoping} {c : Table} (y : Body) (inside : CoreStmt) (second : WalksStmt (statement_in (within_in t w) k.inner m t (body_in t x) k.st) m t u c y (Ok inside)) (same : view c v ≡ view t v) where
  pub parts_ended : {q : Table} (z : Body) (i : IsBodyIn (length c.forms) z) (tree : StmtOf CType) (r : Result CoreStmt CheckFault) → k.make (view c v) (code_in c (y, inside)) ≡ done (body_in c z) tree → Ends c k.line (k.node (view c v)) tree q r → WalksStmt whole s a u q z r
  parts_ended {q = q} z i tree (Ok full) e h =
      parts_go k x below first started y inside second same z full h.grows h.sound (e ∙ beside c q h.grows.extends z full tree i h.ok) (body_later c q h.grows.extends z i, h.within)
  parts_ended z i tree (Err d) e h = parts_told k x below first started y inside second same d z (Err d) refl h.grows h.told

-- ---- a part alone

single_ended : {V T : Type 0} {view : Table → V → T} {IsPart : ℕ → V → Type 0} (o : Outcome T) (line : ℕ) (n : T → StmtNode) (make : T → Typed (StmtOf CType)) {s : Scoping} {a : Table} {whole : Outcome (Typed (StmtOf CType))} (is : whole ≡ then_do o (λ m x. at_stmt m line (n x) (make x)))
    {m : Scoping} {t : Table} {v : V} (first : Walks view IsPart o s a m t (Ok v)) {q : Table} (x : Body) (i : IsBodyIn (length t.forms) x) (tree : StmtOf CType) (r : Result CoreStmt CheckFault) → make (view t v) ≡ done (body_in t x) tree → Ends t line (n (view t v)) tree q r → WalksStmt whole s a m q x r
single_ended o line n make is {t = t} first {q = q} x i tree (Ok full) e h = single_goes o line n make is first x full h.grows h.sound (e ∙ beside t q h.grows.extends x full tree i h.ok) (body_later t q h.grows.extends x i, h.within)
single_ended o line n make is first x i tree (Err d) e h = single_told o line n make is first d x (Err d) refl h.grows h.told

-- ---- `do`

module _ (w : Within) (around inner : AroundTrees) (loop : inner ≡ in_loop around) (s : Scoping) (a : Table) (x : Body) (line : ℕ) (e : ExprTree) (st : StatementTree) (known : AreSymbolsIn (length a.forms) s.symbols) (below : w.result < length a.forms)
    {u : Scoping} {c : Table} (y : Body) (inside : CoreStmt) (second : WalksStmt (statement_in (within_in a w) inner s a (body_in a x) st) s a u c y (Ok inside)) where
  pub do_ended : {z : Scoping} {t : Table} {v : CoreOf ℕ} (third : Walks core IsIn (expr_in u c e) u c z t (Ok v)) {q : Table} (r : Result CoreStmt CheckFault) → Ends t line (node.Test (core t v)) (code.Do (stmt_in t inside) (value (core t v))) q r
      → WalksStmt (statement_in (within_in a w) around s a (body_in a x) (Do line st e)) s a z q y r
  do_ended {t = t} {v = v} third r h =
      let l = third.keeps.extends in
      do_behind w around inner loop s a x line e st known below y inside second y r
      (single_ended (expr_in u c e) line (λ k. node.Test k) (λ k. on_code (λ x. code.Do x (value k)) (code_in c (y, inside))) (do_rest_is w around inner loop s a x line e st known below y inside second) third
      y (body_later c t l y second.within.0) (code.Do (stmt_in t inside) (value (core t v))) r
      (two_same done (sym (body_stays c t l y second.within.0)) (ap (λ b. code.Do b (value (core t v))) (sym (stmt_stays c t l (stmt_of inside) second.within.1)))) h)

-- ---- `if` with `else`

module _ (w : Within) (around : AroundTrees) (s : Scoping) (a : Table) (x : Body) (line : ℕ) (e : ExprTree) (st other : StatementTree) (below : w.result < length a.forms) (within : IsBodyIn (length a.forms) x)
    {m : Scoping} {t : Table} {v : CoreOf ℕ} (first : Walks core IsIn (expr_in s a e) s a m t (Ok v))
    {u : Scoping} {c : Table} (y : Body) (inside : CoreStmt) (second : WalksStmt (statement_in (within_in t w) around m t (body_in t x) st) m t u c y (Ok inside)) where
  pub else_ended : {z : Scoping} {d : Table} (k : Body) (otherwise : CoreStmt) (third : WalksStmt (statement_in (within_in c w) around u c (body_in c y) other) u c z d k (Ok otherwise)) {q : Table} (r : Result CoreStmt CheckFault)
      → Ends d line (node.Test (core d v)) (code.If (value (core d v)) (stmt_in d inside) (stmt_in d otherwise)) q r → WalksStmt (statement_in (within_in a w) around s a (body_in a x) (IfElse line e st other)) s a z q k r
  else_ended {d = d} k otherwise third {q = q} r h =
      let l = third.keeps.extends in
      let tested = seen_stays t d (extends_on t c d second.keeps.extends l) v first.within ∙ sym (same w around s a x line e st other below within first y inside second) in
      let kept = stmt_stays c d l (stmt_of inside) second.within.1 in
      let tree = code.If (value (core c v)) (stmt_in c inside) (stmt_in d otherwise) in
      else_behind_first w around s a x line e st other below within first y inside second k r
      (parts_ended (else_parts w around s a x line e st other below within first y inside second) y (later w around s a x line e st other below within first y inside second) (walk_nothing u c second.keeps.symbols) refl k otherwise third refl
      k third.within.0 tree r refl
      (subst (λ n. Ends d line n tree q r) (ap (λ n. node.Test n) tested)
      (subst (λ n. Ends d line (node.Test (core d v)) n q r) (three_same code.If (ap value tested) kept refl) h)))
