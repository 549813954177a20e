-- The body of a function fits when its unit is made whole.
use Rattle.std.proofs.Common.{ℕ, List, [], ◌∷◌, ◌++◌, sym, subst, ◌∙◌, arith}
use Rattle.std.specs.Prelude.{◌≤◌, length}
use Rattle.c_types.specs.CType.{CType}
use Rattle.c_meaning.specs.declared.core_expr.CoreKind.{CoreKind}
use Rattle.c_meaning.specs.Rows.{result_type}
use Rattle.c_meaning.specs.StmtTrees.{StmtOf, Block, If, While, Do, For, Switch, Label, Goto, StmtsOf, NoStmt, Stmts}
use Rattle.c_meaning.specs.Units.{FunctionTree, IsLeaf, IsStmt, UnitTree, labels}
use Rattle.c_units.specs.Wholes.{copied_types, whole_function, whole_stmt}
use Rattle.c_unit_fits.specs.OpenStmts.{IsOpenStmt}
use Rattle.c_unit_fits.specs.Shapes.{AreShaped, IsShaped}
use Rattle.c_whole_fits.specs.There.{IsMeant, StmtIsThere}
use Rattle.c_whole_fits.proofs.lemmas.Statements.{placed_labels, placed_stmt_fits, whole_labels, whole_stmt_fits}

longer : (xs ys : List CType) → length xs ≤ length (xs ++ ys)
longer [] ys = omega arith
longer (x ∷ xs) ys = let l = longer xs ys in omega (arith, l)

-- what has its shape does so with more locals
mutual
  shaped_more : (n m : ℕ) → n ≤ m → (ns : List ℕ) (s : StmtOf CType) → IsShaped n ns s → IsShaped m ns s
  shaped_more n m l ns (Block first locals ss) h = let k = h.0 in (omega (arith, k, l), all_shaped_more n m l ns ss h.1)
  shaped_more n m l ns (If e s t) h = (shaped_more n m l ns s h.0, shaped_more n m l ns t h.1)
  shaped_more n m l ns (While e s) h = shaped_more n m l ns s h
  shaped_more n m l ns (Do s e) h = shaped_more n m l ns s h
  shaped_more n m l ns (For a b c s) h = shaped_more n m l ns s h
  shaped_more n m l ns (Switch e cases default s) h = (h.0, (h.1.0, (h.1.1.0, shaped_more n m l ns s h.1.1.1)))
  shaped_more n m l ns (Label k s) h = shaped_more n m l ns s h
  shaped_more n m l ns (Goto k) h = h
  shaped_more n m l ns s h = tt

  all_shaped_more : (n m : ℕ) → n ≤ m → (ns : List ℕ) (ss : StmtsOf CType) → AreShaped n ns ss → AreShaped m ns ss
  all_shaped_more n m l ns NoStmt h = tt
  all_shaped_more n m l ns (Stmts s ss) h = (shaped_more n m l ns s h.0, all_shaped_more n m l ns ss h.1)

pub body_fits : (u : UnitTree) (f : FunctionTree) (meant : ℕ → CoreKind) (texts : List (List ℕ)) → IsMeant (IsLeaf u (whole_function meant texts f).locals) meant → IsOpenStmt u.tags (result_type f.of) f.body
    → IsShaped (length f.locals) (labels f.body) f.body → StmtIsThere u (whole_function meant texts f) meant texts f.body
    → IsStmt u (whole_function meant texts f) (labels (whole_function meant texts f).body) (whole_function meant texts f).body
body_fits u f meant texts p h k t =
    let g = whole_function meant texts f in
    let k = shaped_more (length f.locals) (length (f.locals ++ copied_types f.body)) (longer f.locals (copied_types f.body)) (labels f.body) f.body k in
    let e = placed_labels (length f.locals) (whole_stmt meant texts f.body) ∙ whole_labels meant texts f.body in
    subst (λ ns. IsStmt u g ns g.body) (sym e)
    (placed_stmt_fits u g (length f.locals) (labels f.body) (whole_stmt meant texts f.body) (whole_stmt_fits u g meant texts p (labels f.body) f.body h k t))
