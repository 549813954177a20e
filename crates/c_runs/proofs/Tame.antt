-- A checked unit is tame: its numbers are words, its bit-fields lie in their units, and its texts are of bytes.
use Rattle.std.specs.Prelude.{ℕ, Option, Some, None, IfSome, List, [], ◌∷◌}
use Rattle.std.proofs.Common.{arith}
use Rattle.c_types.specs.CType.{CType}
use Rattle.c_meaning.specs.declared.core_expr.CoreKind.{CoreKind}
use Rattle.c_meaning.specs.declared.core_expr.CoreKind.TheVariants as kind
use Rattle.c_meaning.specs.CoreTrees.{Core, NoCore, Cores}
use Rattle.c_meaning.specs.Fits.{IsRow, AllFit}
use Rattle.c_meaning.specs.StmtTrees.{FilledOf, StmtOf, StmtsOf}
use Rattle.c_meaning.specs.StmtTrees as stmt
use Rattle.c_meaning.specs.Each.{EachIs, EachKinds, EachExprs}
use Rattle.c_meaning.specs.Numbers.{IsWordKind, HasWords, PlaceHasWords, StmtHasWords}
use Rattle.c_meaning.specs.Units.{FunctionTree, ObjectTree, UnitTree, IsLeaf, IsExpr, IsValue, IsTest, IsReturned, AreFilled, IsStmt, AreStmts, IsFunction, IsObject}
use Rattle.c_meaning.specs.Values.{CoreTree, CoreTrees}
use Rattle.c_runs.specs.Soundness.{IsTameKind, IsTame, AreTame, IsTamePlace, IsMaybeTame, IsTameStmt, AreTameStmts, IsTameFunction, IsTameObject, UnitsAreTame}

kind_tame : (u : UnitTree) (locals : List CType) (what : CoreKind) (of : CType) (kids : CoreTrees) → IsRow (IsLeaf u locals) u.tags what of kids → IsWordKind what → IsTameKind what
kind_tame u locals (kind.Number n) of kids r h = h
kind_tame u locals (kind.Member offset first width) of NoCore r h = absurd r
kind_tame u locals (kind.Member offset first width) of (Cores a NoCore) r h =
    let at = r.1.3 in
    let f = at.1.0 in
    let w = at.1.1.0 in
    let l = at.1.1.1.0.within in
    omega (arith, f, w, l)
kind_tame u locals (kind.Member offset first width) of (Cores a (Cores b cs)) r h = absurd r
kind_tame u locals what of kids r h = tt

mutual
  fits_tame : (u : UnitTree) (locals : List CType) (c : CoreTree) → IsExpr u locals c → HasWords c → IsTame c
  fits_tame u locals (Core what of line kids) f h = (kind_tame u locals what of kids f.1.1 h.0, kids_tame u locals kids f.0 h.1)

  kids_tame : (u : UnitTree) (locals : List CType) (cs : CoreTrees) → AllFit (IsLeaf u locals) u.tags cs → EachKinds IsWordKind cs → AreTame cs
  kids_tame u locals NoCore f h = tt
  kids_tame u locals (Cores c cs) f h = (fits_tame u locals c f.0 h.0, kids_tame u locals cs f.1 h.1)

maybe_value : (u : UnitTree) (locals : List CType) (e : Option CoreTree) → IfSome e (IsValue u locals) → IfSome e HasWords → IsMaybeTame e
maybe_value u locals None f h = tt
maybe_value u locals (Some e) f h = fits_tame u locals e f.0 h

maybe_test : (u : UnitTree) (locals : List CType) (e : Option CoreTree) → IfSome e (IsTest u locals) → IfSome e HasWords → IsMaybeTame e
maybe_test u locals None f h = tt
maybe_test u locals (Some e) f h = fits_tame u locals e f.0.0 h

maybe_returned : (u : UnitTree) (f : FunctionTree) (e : Option CoreTree) → IsReturned u f e → IfSome e HasWords → IsMaybeTame e
maybe_returned u f None r h = tt
maybe_returned u f (Some e) r h = fits_tame u f.locals e r.0.0 h

places_tame : (u : UnitTree) (locals : List CType) (size : ℕ) (ps : List (FilledOf CType)) → AreFilled u locals size ps → EachIs PlaceHasWords ps → EachIs IsTamePlace ps
places_tame u locals size [] f h = tt
places_tame u locals size (p ∷ ps) f h = ((f.0.1.1.0.within, fits_tame u locals p.value f.0.0 h.0), places_tame u locals size ps f.1 h.1)

mutual
  stmt_tame : (u : UnitTree) (f : FunctionTree) (ns : List ℕ) (s : StmtOf CType) → IsStmt u f ns s → StmtHasWords s → IsTameStmt s
  stmt_tame u f ns stmt.Nothing r h = tt
  stmt_tame u f ns (stmt.Expression e) r h = fits_tame u f.locals e r.0 h
  stmt_tame u f ns (stmt.Initialise local clear ps) r h = places_tame u f.locals r.2.0 ps r.2.2 h
  stmt_tame u f ns (stmt.Block first locals ss) r h = stmts_tame u f ns ss r.1 h
  stmt_tame u f ns (stmt.If e s t) r h = (fits_tame u f.locals e r.0.0.0 h.0, (stmt_tame u f ns s r.1.0 h.1.0, stmt_tame u f ns t r.1.1 h.1.1))
  stmt_tame u f ns (stmt.While e s) r h = (fits_tame u f.locals e r.0.0.0 h.0, stmt_tame u f ns s r.1 h.1)
  stmt_tame u f ns (stmt.Do s e) r h = (stmt_tame u f ns s r.0 h.0, fits_tame u f.locals e r.1.0.0 h.1)
  stmt_tame u f ns (stmt.For a b c s) r h = (maybe_value u f.locals a r.0 h.0, (maybe_test u f.locals b r.1.0 h.1.0, (maybe_value u f.locals c r.1.1.0 h.1.1.0, stmt_tame u f ns s r.1.1.1 h.1.1.1)))
  stmt_tame u f ns (stmt.Switch e cases default s) r h = (fits_tame u f.locals e r.0.0 h.0, stmt_tame u f ns s r.1.1.1.1.1 h.1)
  stmt_tame u f ns (stmt.Label n s) r h = stmt_tame u f ns s r h
  stmt_tame u f ns (stmt.Goto n) r h = tt
  stmt_tame u f ns stmt.Break r h = tt
  stmt_tame u f ns stmt.Continue r h = tt
  stmt_tame u f ns (stmt.Return e) r h = maybe_returned u f e r h

  stmts_tame : (u : UnitTree) (f : FunctionTree) (ns : List ℕ) (ss : StmtsOf CType) → AreStmts u f ns ss → EachExprs HasWords PlaceHasWords ss → AreTameStmts ss
  stmts_tame u f ns stmt.NoStmt r h = tt
  stmts_tame u f ns (stmt.Stmts s ss) r h = (stmt_tame u f ns s r.0 h.0, stmts_tame u f ns ss r.1 h.1)

functions_tame : (u : UnitTree) (fs : List FunctionTree) → EachIs (IsFunction u) fs → EachIs IsTameFunction fs
functions_tame u [] r = tt
functions_tame u (f ∷ fs) r = (stmt_tame u f _ f.body r.0.body r.0.words, functions_tame u fs r.1)

objects_tame : (u : UnitTree) (os : List ObjectTree) → EachIs (IsObject u) os → EachIs IsTameObject os
objects_tame u [] r = tt
objects_tame u (o ∷ os) r = (places_tame u [] r.0.places.0 o.places r.0.places.2 r.0.words, objects_tame u os r.1)

pub units_are_tame : UnitsAreTame
units_are_tame u r = record { functions = functions_tame u u.functions r.functions; objects = objects_tame u u.objects r.objects; texts = r.bytes }
