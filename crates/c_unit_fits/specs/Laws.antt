-- What is typed fits: initialisers, declarations, statements and functions.
use Rattle.std.specs.Prelude.{◌≡◌, ℕ, Option, None, ◌+◌, true, false, List, length}
use Rattle.std.specs.List.{range_with_len}
use Rattle.c_ast.specs.Levels.{FitsBlock, FitsExternals, FitsStatement}
use Rattle.c_ast.specs.Trees.{BlockTree, DeclarationTree, DeclaratorTree, ExternalTree, SpecifiersTree, StatementTree}
use Rattle.c_types.specs.CType.{CType}
use Rattle.c_meaning.specs.BlockLocals.{are_next, declared_in}
use Rattle.c_meaning.specs.Each.{EachIs}
use Rattle.c_meaning.specs.State.{State}
use Rattle.c_meaning.specs.Units.{labels}
use Rattle.c_meaning.specs.StmtTrees.{StmtOf}
use Rattle.c_units.specs.Bodies.{Body, Typed, Within}
use Rattle.c_units.specs.BodiesRelation.{TypesBlock, TypesStmt}
use Rattle.c_units.specs.Marks.{marks}
use Rattle.c_units.specs.Typing.{at_first}
use Rattle.c_units.specs.Statements.{Around}
use Rattle.c_fits.specs.Sound.{IsSound, Leads}
use Rattle.c_units.specs.Definitions.{Definition}
use Rattle.c_units.specs.Ends.{unit_fault, with_tentative}
use Rattle.c_units.specs.Externals.{Parts, no_parts}
use Rattle.c_units.specs.Functions.{TypedFunction, nowhere, started, within}
use Rattle.c_units.specs.UnitsRelation.{TypesExternals, TypesFunction}
use Rattle.c_unit_fits.specs.Functions.{FunctionFits}
use Rattle.c_unit_fits.specs.OpenUnits.{IsStaticObject, PartsFit}
use Rattle.c_unit_fits.specs.OpenStmts.{BodyFits, IsOpenStmt}
use Rattle.c_unit_fits.specs.Shapes.{HasShape}

-- a statement of the grammar, typed where what is known is sound and what its function has so far fits, fits what is known behind it;
-- and so does what the function has then
abbrev pub TypedStatementFits : Type 0
TypedStatementFits =
    (f : Within) (a : Around) (s u : State) (first : List CType) (b : Body) (st : StatementTree) (t : Typed (StmtOf CType)) → IsSound s → FitsStatement st → BodyFits s.tags first b → TypesStmt f a s b st u t
    → IsOpenStmt u.tags f.result t.code × BodyFits u.tags first t.body

-- what is known behind it is sound again, and leads on from what was known before
abbrev pub TypedStatementLeads : Type 0
TypedStatementLeads =
    (f : Within) (a : Around) (s u : State) (first : List CType) (b : Body) (st : StatementTree) (t : Typed (StmtOf CType)) → IsSound s → FitsStatement st → BodyFits s.tags first b → TypesStmt f a s b st u t → Leads s u

-- its labels are numbered in the order of the text by how many stood before, and the locals of its blocks follow those before in order
abbrev pub TypedStatementIsNumbered : Type 0
TypedStatementIsNumbered =
    (f : Within) (a : Around) (s u : State) (b : Body) (st : StatementTree) (t : Typed (StmtOf CType)) → TypesStmt f a s b st u t
    → (labels t.code ≡ range_with_len b.marks (marks st)) × ((are_next (length b.locals) t.code ≡ true) × (length t.body.locals ≡ length b.locals + declared_in t.code))

-- a function's body of which each goto finds its label
abbrev pub TypedBodyHasShape : Type 0
TypedBodyHasShape =
    (s u : State) (n : Definition) (first : List CType) (body : BlockTree) (t : Typed (StmtOf CType)) → TypesBlock (within n body) nowhere s (started first) body u t → t.body.lost ≡ false → HasShape (length first) t

-- a function's definition of the grammar, typed where what is known is sound, fits what is known behind it
abbrev pub TypedFunctionFits : Type 0
TypedFunctionFits =
    (s u : State) (line : ℕ) (specs : Option SpecifiersTree) (d : DeclaratorTree) (olds : List DeclarationTree) (body : BlockTree) (f : TypedFunction) → IsSound s → FitsBlock body
    → TypesFunction s line specs d olds body u f → FunctionFits u.tags f

-- external declarations of the grammar, typed where what is known is sound and what the unit has so far fits, give what fits; and what
-- is known behind them leads on from what was known before
abbrev pub ExternalsFit : Type 0
ExternalsFit = (s u : State) (p q : Parts) (xs : List ExternalTree) → IsSound s → FitsExternals xs → PartsFit s.tags p → TypesExternals s p xs u q → Leads s u × PartsFit u.tags q

-- so a unit without a fault fits with its tentative definitions, and what is known at its end is sound
abbrev pub UnitFits : Type 0
UnitFits = (s : State) (q : Parts) (xs : List ExternalTree) → FitsExternals xs → TypesExternals at_first no_parts xs s q → unit_fault s q ≡ None → IsSound s × PartsFit s.tags (with_tentative s q)

-- and what its objects begin with is constant
abbrev pub UnitIsStatic : Type 0
UnitIsStatic = (s : State) (q : Parts) → unit_fault s q ≡ None → EachIs (IsStaticObject s.tags (with_tentative s q).objects) (with_tentative s q).objects
