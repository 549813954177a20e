-- Typed statements have their shape, where each goto finds its label.
use Rattle.std.proofs.Common.{◌≡◌, ℕ, ◌≤◌, true, false, List, [], ◌∷◌, length, refl, subst, arith}
use Rattle.std.specs.Prelude.{Option, Some, None, is_none}
use Rattle.std.proofs.lemmas.List.{length-append}
use Rattle.c_ast.specs.Trees.{NoExpr, AnExpr, StatementTree, Label, Case, Default, Expression, Compound, If, IfElse, Switch, While, Do, For, Goto, Continue, Break, Return, StatementTrees, NoStatements, Statements, BlockTree, Block}
use Rattle.c_symbols.specs.Scoping.{symbol_named}
use Rattle.c_types.specs.CType.{CType}
use Rattle.c_meaning.specs.Declarations.{or_zero}
use Rattle.c_meaning.specs.State.{State, entered}
use Rattle.c_meaning.specs.StmtTrees.{StmtOf, Initialise, StmtsOf}
use Rattle.c_meaning.specs.Units.{is_among}
use Rattle.c_units.specs.Bodies.{Body, Typed, Within, in_switch, marked, stmts_behind, with_case, with_cases, with_declared, with_default}
use Rattle.c_units.specs.BodiesRelation.{TypesStmt, TypesStmts, TypesBlock}
use Rattle.c_units.specs.Marks.{marks}
use Rattle.c_units.specs.Statements.{Around}
use Rattle.c_fits.proofs.lemmas.Booleans.{never, or_right}
use Rattle.c_unit_fits.specs.Shapes.{IsShaped, AreShaped}
use Rattle.c_unit_fits.proofs.lemmas.Fills.{AreFills, declarations_fill}
use Rattle.c_unit_fits.proofs.lemmas.Marked.{stmt_marked, switch_cases, switch_default, switch_marked}
use Rattle.c_unit_fits.proofs.lemmas.Numbered.{stmt_numbered, stmts_numbered}

-- the function's labels are among these
abbrev pub AreFound : Within → List ℕ → Type 0
AreFound f ns = (name : List ℕ) (m : ℕ) → symbol_named f.labels name ≡ Some m → is_among m ns ≡ true

goto_among : (ns : List ℕ) (o : Option ℕ) → ((m : ℕ) → o ≡ Some m → is_among m ns ≡ true) → is_none o ≡ false → is_among (or_zero o) ns ≡ true
goto_among ns (Some m) g h = g m refl
goto_among ns None g h = never h

fills_shaped : (n : ℕ) (ns : List ℕ) (fs : List (StmtOf CType)) (ss : StmtsOf CType) → AreFills fs → AreShaped n ns ss → AreShaped n ns (stmts_behind fs ss)
fills_shaped n ns [] ss h k = k
fills_shaped n ns (Initialise place zero places ∷ fs) ss h k = (tt, fills_shaped n ns fs ss h.1 k)
fills_shaped n ns (f ∷ fs) ss h k = absurd h.0

mutual
  pub stmt_shaped : (f : Within) (a : Around) (s : State) (b : Body) (st : StatementTree) (u : State) (t : Typed (StmtOf CType)) → TypesStmt f a s b st u t → (n : ℕ) (ns : List ℕ) → AreFound f ns → length t.body.locals ≤ n → t.body.lost ≡ false → IsShaped n ns t.code
  stmt_shaped f a s b (Label l name st) u t h n ns g k e =
      subst (λ (t : Typed (StmtOf CType)). length t.body.locals ≤ n → t.body.lost ≡ false → IsShaped n ns t.code) h.3.1.1 (stmt_shaped f a s (marked b) st h.0 h.1 h.2 n ns g) k e
  stmt_shaped f a s b (Case l x st) u t h n ns g k e =
      subst (λ (t : Typed (StmtOf CType)). length t.body.locals ≤ n → t.body.lost ≡ false → IsShaped n ns t.code) h.3.3.1.1 (stmt_shaped f a h.0 (with_case a b h.1) st h.3.0 h.3.1 h.3.2 n ns g) k e
  stmt_shaped f a s b (Default l st) u t h n ns g k e =
      subst (λ (t : Typed (StmtOf CType)). length t.body.locals ≤ n → t.body.lost ≡ false → IsShaped n ns t.code) h.3.1.1 (stmt_shaped f a s (with_default a b) st h.0 h.1 h.2 n ns g) k e
  stmt_shaped f a s b (Expression l NoExpr) u t h n ns g k e = subst (λ (t : Typed (StmtOf CType)). IsShaped n ns t.code) h.1 tt
  stmt_shaped f a s b (Expression l (AnExpr x)) u t h n ns g k e = subst (λ (t : Typed (StmtOf CType)). IsShaped n ns t.code) h.3.1.1 tt
  stmt_shaped f a s b (Compound l block) u t h n ns g k e =
      subst (λ (t : Typed (StmtOf CType)). length t.body.locals ≤ n → t.body.lost ≡ false → IsShaped n ns t.code) h.3.1 (block_shaped f a (entered s) b block h.0 h.1 h.2 n ns g) k e
  stmt_shaped f a s b (If l x st) u t h n ns g k e =
      subst (λ (t : Typed (StmtOf CType)). length t.body.locals ≤ n → t.body.lost ≡ false → IsShaped n ns t.code) h.3.3.1.1 (λ k e. (stmt_shaped f a h.0 b st h.3.0 h.3.1 h.3.2 n ns g k e, tt)) k e
  stmt_shaped f a s b (IfElse l x st su) u t h n ns g k e =
      let j = stmt_numbered f a h.3.0 h.3.1.body su h.3.3.0 h.3.3.1 h.3.3.2 in
      let m = j.locals in
      subst (λ (t : Typed (StmtOf CType)). length t.body.locals ≤ n → t.body.lost ≡ false → IsShaped n ns t.code) h.3.3.3.1.1
      (λ k e. (stmt_shaped f a h.0 b st h.3.0 h.3.1 h.3.2 n ns g (omega (arith, m, k)) (j.lost e), stmt_shaped f a h.3.0 h.3.1.body su h.3.3.0 h.3.3.1 h.3.3.2 n ns g k e)) k e
  stmt_shaped f a s b (Switch l x st) u t h n ns g k e =
      let i = stmt_numbered f (in_switch a) h.0 (with_cases [] None b) st h.3.0 h.3.1 h.3.2 in
      let m = stmt_marked f (in_switch a) h.0 (with_cases [] None b) st h.3.0 h.3.1 h.3.2 b.marks (switch_marked b) in
      subst (λ (t : Typed (StmtOf CType)). length t.body.locals ≤ n → t.body.lost ≡ false → IsShaped n ns t.code) h.3.3.1.1
      (λ k e. (m.apart, (switch_cases (with_cases [] None b) (marks st) h.3.1 i m, (switch_default (with_cases [] None b) (marks st) h.3.1 i m, stmt_shaped f (in_switch a) h.0 (with_cases [] None b) st h.3.0 h.3.1 h.3.2 n ns g k e)))) k e
  stmt_shaped f a s b (While l x st) u t h n ns g k e =
      subst (λ (t : Typed (StmtOf CType)). length t.body.locals ≤ n → t.body.lost ≡ false → IsShaped n ns t.code) h.3.3.1.1 (stmt_shaped f _ h.0 b st h.3.0 h.3.1 h.3.2 n ns g) k e
  stmt_shaped f a s b (Do l st x) u t h n ns g k e =
      subst (λ (t : Typed (StmtOf CType)). length t.body.locals ≤ n → t.body.lost ≡ false → IsShaped n ns t.code) h.3.3.1.1 (stmt_shaped f _ s b st h.0 h.1 h.2 n ns g) k e
  stmt_shaped f a s b (For l first test last st) u t h n ns g k e =
      let r = h.3.3.3 in
      subst (λ (t : Typed (StmtOf CType)). length t.body.locals ≤ n → t.body.lost ≡ false → IsShaped n ns t.code) r.3.1.1 (stmt_shaped f _ h.3.3.0 b st r.0 r.1 r.2 n ns g) k e
  stmt_shaped f a s b (Goto l name) u t h n ns g k e =
      subst (λ (t : Typed (StmtOf CType)). t.body.lost ≡ false → IsShaped n ns t.code) h.1 (λ e. goto_among ns (symbol_named f.labels name) (g name) (or_right b.lost (is_none (symbol_named f.labels name)) e)) e
  stmt_shaped f a s b (Continue l) u t h n ns g k e = subst (λ (t : Typed (StmtOf CType)). IsShaped n ns t.code) h.1.1 tt
  stmt_shaped f a s b (Break l) u t h n ns g k e = subst (λ (t : Typed (StmtOf CType)). IsShaped n ns t.code) h.1.1 tt
  stmt_shaped f a s b (Return l x) u t h n ns g k e = subst (λ (t : Typed (StmtOf CType)). IsShaped n ns t.code) h.3.1.1 tt

  stmts_shaped : (f : Within) (a : Around) (s : State) (b : Body) (ss : StatementTrees) (u : State) (t : Typed (StmtsOf CType)) → TypesStmts f a s b ss u t → (n : ℕ) (ns : List ℕ) → AreFound f ns → length t.body.locals ≤ n → t.body.lost ≡ false → AreShaped n ns t.code
  stmts_shaped f a s b NoStatements u t h n ns g k e = subst (λ (t : Typed (StmtsOf CType)). AreShaped n ns t.code) h.1 tt
  stmts_shaped f a s b (Statements st more) u t h n ns g k e =
      let j = stmts_numbered f a h.0 h.1.body more h.3.0 h.3.1 h.3.2 in
      let m = j.locals in
      subst (λ (t : Typed (StmtsOf CType)). length t.body.locals ≤ n → t.body.lost ≡ false → AreShaped n ns t.code) h.3.3.1
      (λ k e. (stmt_shaped f a s b st h.0 h.1 h.2 n ns g (omega (arith, m, k)) (j.lost e), stmts_shaped f a h.0 h.1.body more h.3.0 h.3.1 h.3.2 n ns g k e)) k e

  pub block_shaped : (f : Within) (a : Around) (s : State) (b : Body) (block : BlockTree) (u : State) (t : Typed (StmtOf CType)) → TypesBlock f a s b block u t → (n : ℕ) (ns : List ℕ) → AreFound f ns → length t.body.locals ≤ n → t.body.lost ≡ false → IsShaped n ns t.code
  block_shaped f a s b (Block l ds ss) u t h n ns g k e =
      let j = stmts_numbered f a h.0 (with_declared b h.1) ss h.3.0 h.3.1 h.3.2 in
      let m = j.locals in
      let i = length-append b.locals h.1.locals in
      subst (λ (t : Typed (StmtOf CType)). length t.body.locals ≤ n → t.body.lost ≡ false → IsShaped n ns t.code) h.3.3.1
      (λ k e. (omega (arith, m, k, i), fills_shaped n ns h.1.fills h.3.1.code (declarations_fill s ds h.0 h.1 h.2) (stmts_shaped f a h.0 (with_declared b h.1) ss h.3.0 h.3.1 h.3.2 n ns g k e))) k e
