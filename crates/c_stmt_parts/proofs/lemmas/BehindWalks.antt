-- `do` and `if` with `else`: what is typed behind their first statement.
use Rattle.std.proofs.Common.{◌≡◌, ℕ, ◌<◌, length, refl, sym, ap, ◌∙◌}
use Rattle.std.specs.Prelude.{Result, Ok, Err, IsErrAnd}
use Rattle.c_ast.specs.Trees.{ExprTree, StatementTree, Do, IfElse}
use Rattle.c_symbols.specs.Scoping.{Scoping}
use Rattle.c_types.specs.CType.{CType}
use Rattle.c_types.specs.Table.{Table}
use Rattle.c_meaning.specs.CoreTrees.{CoreOf, IsIn}
use Rattle.c_meaning.specs.State.{State}
use Rattle.c_meaning.specs.StmtTrees.{StmtOf}
use Rattle.c_meaning.specs.StmtTrees as code
use Rattle.c_meaning.specs.Typing.{Outcome, Fine, then_do, typed}
use Rattle.c_meaning.specs.Values.{CoreTree, value}
use Rattle.c_meaning.specs.declared.core_stmt.CoreStmt.{CoreStmt}
use Rattle.c_values.specs.Stays.{seen_stays}
use Rattle.c_values.specs.declared.check_fault.CheckFault.{CheckFault}
use Rattle.c_check_expr.specs.Kept.{below_later}
use Rattle.c_check_expr.specs.Known.{AreSymbolsIn, state_of}
use Rattle.c_check_expr.specs.TypedIn.{expr_in}
use Rattle.c_check_expr.specs.Walks.{Walks, core}
use Rattle.c_check_decl.specs.Declares.{stmt_in}
use Rattle.c_units.specs.Bodies.{Typed, Within as WithinTrees, at_stmt, done, in_loop, on_code, typed_stmt}
use Rattle.c_units.specs.Statements.{Around as AroundTrees}
use Rattle.c_units.specs.Statements as node
use Rattle.c_stmt_parts.specs.declared.around.Within.{Within}
use Rattle.c_stmt_parts.specs.declared.body.Body.{Body}
use Rattle.c_stmt_parts.specs.BodiesSeen.{IsBodyIn, body_in, within_in}
use Rattle.c_stmt_parts.proofs.lemmas.BodiesStay.{body_stays, within_stays}
use Rattle.c_stmt_parts.specs.StatementsIn.{WalksStmt, code_in, statement_in}
use Rattle.c_stmt_parts.proofs.lemmas.StatementNodes.{do_is, if_else_is}
use Rattle.c_stmt_parts.proofs.lemmas.StatementWalks.{Parts, inner_goes, inner_stops, part_stops, parts_stop_inside, single_stops, walk_nothing}

-- ---- `do`

abbrev pub test_behind : ℕ → ExprTree → State → ℕ → Typed (StmtOf CType) → Outcome (Typed (StmtOf CType))
test_behind line e u n t = then_do (typed u e) (λ v c. at_stmt v line (node.Test c) (on_code (λ x. code.Do x (value c)) t))

module _ (w : Within) (around inner : AroundTrees) (loop : inner ≡ in_loop around) (s : Scoping) (a : Table) (x : Body) (line : ℕ) (e : ExprTree) (st : StatementTree) (known : AreSymbolsIn (length a.forms) s.symbols) (below : w.result < length a.forms) where
  abbrev do_tree : Outcome (Typed (StmtOf CType))
  do_tree = statement_in (within_in a w) around s a (body_in a x) (Do line st e)

  abbrev do_start : Outcome ℕ
  do_start = Fine (state_of s a) 0

  pub do_stops : {u : Scoping} {c : Table} {d : CheckFault} (y : Body) (r : Result CoreStmt CheckFault) → IsErrAnd r (λ y. y ≡ d) → WalksStmt (statement_in (within_in a w) inner s a (body_in a x) st) s a u c y (Err d) → WalksStmt do_tree s a u c y r
  do_stops y r h p = inner_stops do_start w inner (λ n. body_in a x) st (test_behind line e) (do_is (within_in a w) around s a (body_in a x) line e st inner loop) x below (walk_nothing s a known) refl y r h p

  module _ {u : Scoping} {c : Table} (y : Body) (inside : CoreStmt) (second : WalksStmt (statement_in (within_in a w) inner s a (body_in a x) st) s a u c y (Ok inside)) where
    abbrev pub do_rest : Outcome (Typed (StmtOf CType))
    do_rest = test_behind line e (state_of u c) 0 (code_in c (y, inside))

    pub do_behind : {z : Scoping} {q : Table} (v : Body) (r : Result CoreStmt CheckFault) → WalksStmt do_rest u c z q v r → WalksStmt do_tree s a z q v r
    do_behind v r p = inner_goes do_start w inner (λ n. body_in a x) st (test_behind line e) (do_is (within_in a w) around s a (body_in a x) line e st inner loop) x below (walk_nothing s a known) refl y v inside r second refl p

    pub do_rest_is : do_rest ≡ then_do (expr_in u c e) (λ v k. at_stmt v line (node.Test k) (on_code (λ x. code.Do x (value k)) (code_in c (y, inside))))
    unfolding expr_in
    do_rest_is = refl

    pub do_stops_behind : {z : Scoping} {q : Table} {d : CheckFault} (r : Result CoreStmt CheckFault) → IsErrAnd r (λ y. y ≡ d) → Walks core IsIn (expr_in u c e) u c z q (Err d) → WalksStmt do_tree s a z q y r
    do_stops_behind r h p = do_behind y r (single_stops (expr_in u c e) line (λ k. node.Test k) (λ k. on_code (λ x. code.Do x (value k)) (code_in c (y, inside))) do_rest_is y r h p)

-- ---- `if` with `else`

abbrev pub else_behind : WithinTrees → AroundTrees → ℕ → StatementTree → State → CoreTree → Typed (StmtOf CType) → Outcome (Typed (StmtOf CType))
else_behind f around line other u c t = then_do (typed_stmt f around u t.body other) (λ v x. at_stmt v line (node.Test c) (done x.body (code.If (value c) t.code x.code)))

module _ (w : Within) (around : AroundTrees) (s : Scoping) (a : Table) (x : Body) (line : ℕ) (e : ExprTree) (st other : StatementTree) (below : w.result < length a.forms) (within : IsBodyIn (length a.forms) x) where
  abbrev if_tree : Outcome (Typed (StmtOf CType))
  if_tree = statement_in (within_in a w) around s a (body_in a x) (IfElse line e st other)

  if_is : if_tree ≡ then_do (expr_in s a e) (λ m c. then_do (typed_stmt (within_in a w) around m (body_in a x) st) (λ u t. else_behind (within_in a w) around line other u c t))
  if_is = if_else_is (within_in a w) around s a (body_in a x) line e st other

  pub if_stops : {u : Scoping} {c : Table} {d : CheckFault} (r : Result CoreStmt CheckFault) → IsErrAnd r (λ y. y ≡ d) → Walks core IsIn (expr_in s a e) s a u c (Err d) → WalksStmt if_tree s a u c x r
  if_stops r h p = part_stops (expr_in s a e) w around (λ n. body_in a x) st (else_behind (within_in a w) around line other) if_is x r h p

  module _ {m : Scoping} {t : Table} {v : CoreOf ℕ} (first : Walks core IsIn (expr_in s a e) s a m t (Ok v)) where
    pub if_stops_inside : {u : Scoping} {c : Table} {d : CheckFault} (y : Body) (r : Result CoreStmt CheckFault) → IsErrAnd r (λ y. y ≡ d) → WalksStmt (statement_in (within_in t w) around m t (body_in t x) st) m t u c y (Err d) → WalksStmt if_tree s a u c y r
    if_stops_inside y r h p = inner_stops (expr_in s a e) w around (λ n. body_in a x) st (else_behind (within_in a w) around line other) if_is x below first (body_stays a t first.keeps.extends x within) y r h p

    module _ {u : Scoping} {c : Table} (y : Body) (inside : CoreStmt) (second : WalksStmt (statement_in (within_in t w) around m t (body_in t x) st) m t u c y (Ok inside)) where
      pub same : core c v ≡ core t v
      same = seen_stays t c second.keeps.extends v first.within

      pub else_behind_first : {z : Scoping} {q : Table} (k : Body) (r : Result CoreStmt CheckFault) → WalksStmt (else_behind (within_in a w) around line other (state_of u c) (core c v) (code_in c (y, inside))) u c z q k r → WalksStmt if_tree s a z q k r
      else_behind_first k r p = inner_goes (expr_in s a e) w around (λ n. body_in a x) st (else_behind (within_in a w) around line other) if_is x below first (body_stays a t first.keeps.extends x within) y k inside r second same p

      pub later : w.result < length c.forms
      later = below_later t c second.keeps.extends w.result (below_later a t first.keeps.extends w.result below)

      abbrev pub else_parts : Parts ℕ w c (else_behind (within_in a w) around line other (state_of u c) (core c v) (code_in c (y, inside)))
      else_parts =
          record {
            o = Fine (state_of u c) 0;
            inner = around;
            before = λ n. body_in c y;
            st = other;
            line = line;
            node = λ n. node.Test (core c v);
            make = λ n k. done k.body (code.If (value (core c v)) (stmt_in c inside) k.code);
            is = ap (λ (f : WithinTrees). then_do (typed_stmt f around (state_of u c) (body_in c y) other) (λ v2 k. at_stmt v2 line (node.Test (core c v)) (done k.body (code.If (value (core c v)) (stmt_in c inside) k.code))))
                (sym (within_stays t c second.keeps.extends w (below_later a t first.keeps.extends w.result below) ∙ within_stays a t first.keeps.extends w below));
          }

      pub if_stops_behind : {z : Scoping} {q : Table} {d : CheckFault} (k : Body) (r : Result CoreStmt CheckFault) → IsErrAnd r (λ y. y ≡ d) → WalksStmt (statement_in (within_in c w) around u c (body_in c y) other) u c z q k (Err d) → WalksStmt if_tree s a z q k r
      if_stops_behind k r h p = else_behind_first k r (parts_stop_inside else_parts y later (walk_nothing u c second.keeps.symbols) refl k r h p)
