-- What typed statements promise while a unit is checked, where names are symbols: the operands and types of their expressions, and
-- what local objects begin with.
-- Source: C89 3.6.
use Rattle.std.specs.Prelude.{◌≡◌, true, false, IfSome, Option, Some, None, List, ◌++◌}
use Rattle.c_types.specs.CType.{CType, unqualified}
use Rattle.c_types.specs.Layout.{Tag}
use Rattle.c_meaning.specs.CoreTrees.{type_of}
use Rattle.c_meaning.specs.Each.{EachIs}
use Rattle.c_meaning.specs.Fits.{Fits, IsOpenLeaf, IsPromoted, is_value}
use Rattle.c_meaning.specs.StmtTrees.{StmtOf, Nothing, Expression, Initialise, Block, If, While, Do, For, Switch, Label, Goto, Break, Continue, Return, StmtsOf, NoStmt, Stmts}
use Rattle.c_meaning.specs.Types.{is_scalar, is_void}
use Rattle.c_meaning.specs.Values.{CoreTree}
use Rattle.c_units.specs.Bodies.{Body}
use Rattle.c_fits.specs.OpenDeclares.{IsOpenLocal, IsOpenObject}
use Rattle.c_fits.specs.OpenPlaces.{AreOpenOf}

-- an expression that is used for its value, or for what it does
abbrev pub IsOpenValue : List Tag → CoreTree → Type 0
IsOpenValue tags c = Fits IsOpenLeaf tags c × (is_value c ≡ true)

abbrev pub IsOpenTest : List Tag → CoreTree → Type 0
IsOpenTest tags c = IsOpenValue tags c × (is_scalar (type_of c) ≡ true)

-- a value of the function's result, which isn't void, or none
abbrev pub IsOpenReturned : List Tag → CType → Option CoreTree → Type 0
IsOpenReturned tags result None = Unit {0}
IsOpenReturned tags result (Some c) = IsOpenValue tags c × ((is_void result ≡ false) × (unqualified (type_of c) ≡ unqualified result))

-- statements of a function with this result
abbrev mutual
  pub IsOpenStmt : List Tag → CType → StmtOf CType → Type 0
  IsOpenStmt tags result Nothing = Unit {0}
  IsOpenStmt tags result (Expression e) = IsOpenValue tags e
  IsOpenStmt tags result (Initialise local zero ps) = (of : CType) × AreOpenOf tags of ps
  IsOpenStmt tags result (Block first locals ss) = AreOpenStmts tags result ss
  IsOpenStmt tags result (If e s t) = IsOpenTest tags e × (IsOpenStmt tags result s × IsOpenStmt tags result t)
  IsOpenStmt tags result (While e s) = IsOpenTest tags e × IsOpenStmt tags result s
  IsOpenStmt tags result (Do s e) = IsOpenStmt tags result s × IsOpenTest tags e
  IsOpenStmt tags result (For a b c s) = IfSome a (IsOpenValue tags) × (IfSome b (IsOpenTest tags) × (IfSome c (IsOpenValue tags) × IsOpenStmt tags result s))
  IsOpenStmt tags result (Switch e cases default s) = IsOpenValue tags e × (IsPromoted (type_of e) × IsOpenStmt tags result s)
  IsOpenStmt tags result (Label n s) = IsOpenStmt tags result s
  IsOpenStmt tags result (Goto n) = Unit {0}
  IsOpenStmt tags result Break = Unit {0}
  IsOpenStmt tags result Continue = Unit {0}
  IsOpenStmt tags result (Return e) = IsOpenReturned tags result e

  pub AreOpenStmts : List Tag → CType → StmtsOf CType → Type 0
  AreOpenStmts tags result NoStmt = Unit {0}
  AreOpenStmts tags result (Stmts s ss) = IsOpenStmt tags result s × AreOpenStmts tags result ss

-- what a function has so far behind these first locals: its further locals have sizes, and the objects with static storage of its
-- blocks have, too, and fit
pub record BodyFits (tags : List Tag) (first : List CType) (b : Body) : Type 0 where
  pub further : List CType
  pub split : b.locals ≡ first ++ further
  pub locals : EachIs (IsOpenLocal tags) further
  pub objects : EachIs (IsOpenObject tags) b.objects
