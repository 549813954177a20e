-- What holds of each checked unit and isn't said by its rows.
-- Source: ISO/IEC 9899:1990, 6.3, 6.6.4.2, 6.6.6; the profile of this compiler.
use Rattle.std.specs.Prelude.{◌≡◌, ◌≤◌, false, Some, length}
use Rattle.c_types.specs.CType.{CType}
use Rattle.c_meaning.specs.declared.core_expr.CoreKind.{CoreKind}
use Rattle.c_meaning.specs.declared.core_expr.CoreKind.TheVariants as kind
use Rattle.c_meaning.specs.Copies.{LocalAt, copies_in}
use Rattle.c_meaning.specs.Each.{EachExpr, EachIs, EachKind}
use Rattle.c_meaning.specs.Laws.{IsLocalOf}
use Rattle.c_meaning.specs.StmtTrees.{FilledOf, StmtOf, StmtsOf}
use Rattle.c_meaning.specs.StmtTrees as stmt
use Rattle.c_meaning.specs.Units.{FunctionTree, ObjectTree, UnitTree, IsExpr, IsFunction, IsUnit, labels}
use Rattle.c_meaning.specs.Values.{CoreTree}
use Rattle.c_runs.specs.Calls.{built_in_at, built_in_number}
use Rattle.c_runs.specs.Places.{size_of}
use Rattle.c_runs.specs.Soundness.{IsTame, IsTameUnit}
use Rattle.c_stmts_agree.specs.CheckedParts.{HasWordCases}
use Rattle.c_stmts_agree.specs.Jumps.{StaysWithin}
use Rattle.c_checked_units.specs.Moves.{AllMoveByObjects, IsObjectSize}

-- a built-in function that is named is one that the unit doesn't define, so that its number stands for it
abbrev pub NamesBuiltIn : UnitTree → CoreKind → Type 0
NamesBuiltIn u (kind.BuiltIn b) = built_in_at u (built_in_number u b) ≡ Some b
NamesBuiltIn u what = Unit {0}

abbrev pub NamesBuiltIns : UnitTree → CoreTree → Type 0
NamesBuiltIns u e = EachKind (NamesBuiltIn u) e

-- the copies of structures that calls pass and give are locals of the function with their types, behind its parameters
pub record IsOwnCopy (f : FunctionTree) (l : LocalAt) : Type 0 where
  pub local : IsLocalOf f.locals l
  pub behind : f.parameters ≤ l.place

abbrev pub HasOwnCopies : FunctionTree → CoreTree → Type 0
HasOwnCopies f e = EachIs (IsOwnCopy f) (copies_in e)

-- an expression of a function
pub record IsCheckedExpr (u : UnitTree) (f : FunctionTree) (e : CoreTree) : Type 0 where
  pub fits : IsExpr u f.locals e
  pub tame : IsTame e
  pub moves : AllMoveByObjects e
  pub names : NamesBuiltIns u e
  pub copies : HasOwnCopies f e

abbrev pub IsCheckedPlace : UnitTree → FunctionTree → FilledOf CType → Type 0
IsCheckedPlace u f p = IsCheckedExpr u f p.value

-- those of its statements
abbrev pub AreCheckedIn : UnitTree → FunctionTree → StmtOf CType → Type 0
AreCheckedIn u f s = EachExpr (IsCheckedExpr u f) (IsCheckedPlace u f) s

-- each switch has no more cases than labels stand in its body, as each case is one of them
abbrev mutual
  pub HasOwnCases : StmtOf CType → Type 0
  HasOwnCases (stmt.Block first locals ts) = AllHaveOwnCases ts
  HasOwnCases (stmt.If e t u) = HasOwnCases t × HasOwnCases u
  HasOwnCases (stmt.While e t) = HasOwnCases t
  HasOwnCases (stmt.Do t e) = HasOwnCases t
  HasOwnCases (stmt.For first test last t) = HasOwnCases t
  HasOwnCases (stmt.Switch e cases default t) = (length cases ≤ length (labels t)) × HasOwnCases t
  HasOwnCases (stmt.Label n t) = HasOwnCases t
  HasOwnCases t = Unit {0}

  pub AllHaveOwnCases : StmtsOf CType → Type 0
  AllHaveOwnCases stmt.NoStmt = Unit {0}
  AllHaveOwnCases (stmt.Stmts t ts) = HasOwnCases t × AllHaveOwnCases ts

-- the numbers of cases are words, each case is a label of its own, and each `break` and `continue` stands in what it leaves or goes on with
pub record HasOwnJumps (f : FunctionTree) : Type 0 where
  pub cases : HasWordCases f.body
  pub labelled : HasOwnCases f.body
  pub jumps : StaysWithin false false f.body

-- an object of the type has no more bytes than an object may
abbrev pub IsOfObjectSize : UnitTree → CType → Type 0
IsOfObjectSize u t = IsObjectSize (size_of u.tags t)

pub record IsCheckedFunction (u : UnitTree) (f : FunctionTree) : Type 0 where
  pub fits : IsFunction u f
  pub sizes : EachIs (IsOfObjectSize u) f.locals
  pub own : HasOwnJumps f
  pub expressions : AreCheckedIn u f f.body

pub record IsCheckedUnit (u : UnitTree) : Type 0 where
  pub unit : IsUnit u
  pub tame : IsTameUnit u
  pub functions : EachIs (IsCheckedFunction u) u.functions
  pub objects : EachIs (λ (o : ObjectTree). IsOfObjectSize u o.of) u.objects
