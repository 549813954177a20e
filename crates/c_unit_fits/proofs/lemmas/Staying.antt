-- Statements that fit do so still where further structures and unions are defined.
use Rattle.std.proofs.Common.{List}
use Rattle.std.specs.Prelude.{IfSome, Option, Some, None}
use Rattle.c_types.specs.CType.{CType}
use Rattle.c_types.specs.Layout.{Tag}
use Rattle.c_meaning.specs.Fits.{IsOpenLeaf}
use Rattle.c_meaning.specs.StmtTrees.{StmtOf, Nothing, Expression, Initialise, Block, If, While, Do, For, Switch, Label, Goto, Break, Continue, Return, StmtsOf, NoStmt, Stmts}
use Rattle.c_meaning.specs.Values.{CoreTree}
use Rattle.c_units.specs.Bodies.{Body}
use Rattle.c_fits.specs.Growing.{Grows}
use Rattle.c_fits.proofs.lemmas.DeclaredFits.{locals_stay, objects_stay, of_stays}
use Rattle.c_fits.proofs.lemmas.Growing.{fits_stays}
use Rattle.c_unit_fits.specs.OpenStmts.{AreOpenStmts, BodyFits, IsOpenReturned, IsOpenStmt, IsOpenTest, IsOpenValue}

module _ (old new : List Tag) (g : Grows old new) where
  pub value_stays : (c : CoreTree) → IsOpenValue old c → IsOpenValue new c
  value_stays c h = (fits_stays IsOpenLeaf old new g c h.0, h.1)

  pub test_stays : (c : CoreTree) → IsOpenTest old c → IsOpenTest new c
  test_stays c h = (value_stays c h.0, h.1)

  pub maybe_value_stays : (c : Option CoreTree) → IfSome c (IsOpenValue old) → IfSome c (IsOpenValue new)
  maybe_value_stays (Some c) h = value_stays c h
  maybe_value_stays None h = tt

  pub maybe_test_stays : (c : Option CoreTree) → IfSome c (IsOpenTest old) → IfSome c (IsOpenTest new)
  maybe_test_stays (Some c) h = test_stays c h
  maybe_test_stays None h = tt

  returned_stays : (result : CType) (c : Option CoreTree) → IsOpenReturned old result c → IsOpenReturned new result c
  returned_stays result (Some c) h = (value_stays c h.0, h.1)
  returned_stays result None h = tt

  pub body_stays : {ps : List CType} (b : Body) → BodyFits old ps b → BodyFits new ps b
  body_stays b h = record { further = h.further; split = h.split; locals = locals_stay old new h.further g h.locals; objects = objects_stay old new b.objects g h.objects }

mutual
  pub stmt_stays : (old new : List Tag) → Grows old new → (result : CType) (s : StmtOf CType) → IsOpenStmt old result s → IsOpenStmt new result s
  stmt_stays old new g result Nothing h = tt
  stmt_stays old new g result (Expression e) h = value_stays old new g e h
  stmt_stays old new g result (Initialise local zero ps) h = (h.0, of_stays old new h.0 ps g h.1)
  stmt_stays old new g result (Block first locals ss) h = stmts_stay old new g result ss h
  stmt_stays old new g result (If e s t) h = (test_stays old new g e h.0, (stmt_stays old new g result s h.1.0, stmt_stays old new g result t h.1.1))
  stmt_stays old new g result (While e s) h = (test_stays old new g e h.0, stmt_stays old new g result s h.1)
  stmt_stays old new g result (Do s e) h = (stmt_stays old new g result s h.0, test_stays old new g e h.1)
  stmt_stays old new g result (For a b c s) h =
      (maybe_value_stays old new g a h.0, (maybe_test_stays old new g b h.1.0, (maybe_value_stays old new g c h.1.1.0, stmt_stays old new g result s h.1.1.1)))
  stmt_stays old new g result (Switch e cases default s) h = (value_stays old new g e h.0, (h.1.0, stmt_stays old new g result s h.1.1))
  stmt_stays old new g result (Label n s) h = stmt_stays old new g result s h
  stmt_stays old new g result (Goto n) h = tt
  stmt_stays old new g result Break h = tt
  stmt_stays old new g result Continue h = tt
  stmt_stays old new g result (Return e) h = returned_stays old new g result e h

  pub stmts_stay : (old new : List Tag) → Grows old new → (result : CType) (ss : StmtsOf CType) → AreOpenStmts old result ss → AreOpenStmts new result ss
  stmts_stay old new g result NoStmt h = tt
  stmts_stay old new g result (Stmts s ss) h = (stmt_stays old new g result s h.0, stmts_stay old new g result ss h.1)
