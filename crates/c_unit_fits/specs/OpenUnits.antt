-- What a unit has so far promises while it is checked, where names are symbols.
-- Source: C89 3.7.
use Rattle.std.specs.Prelude.{◌≡◌, true, false, List, drop, length, take}
use Rattle.c_types.specs.CType.{CType}
use Rattle.c_types.specs.Layout.{Tag}
use Rattle.c_meaning.specs.AddressConstants.{is_static_value}
use Rattle.c_meaning.specs.BlockLocals.{are_next}
use Rattle.c_meaning.specs.Declarations.{Defined}
use Rattle.c_meaning.specs.Each.{EachIs}
use Rattle.c_meaning.specs.Rows.{parameters_type, result_type}
use Rattle.c_meaning.specs.StmtTrees.{FilledOf}
use Rattle.c_meaning.specs.Types.{is_array, is_function}
use Rattle.c_meaning.specs.Units.{AreParameters, FunctionTree, are_apart, declared, is_result, labels}
use Rattle.c_units.specs.Ends.{over}
use Rattle.c_units.specs.Externals.{Parts}
use Rattle.c_units.specs.Functions.{DefinedFunction}
use Rattle.c_fits.specs.OpenDeclares.{IsOpenLocal, IsOpenObject}
use Rattle.c_unit_fits.specs.Functions.{AreSized}
use Rattle.c_unit_fits.specs.OpenStmts.{IsOpenStmt}
use Rattle.c_unit_fits.specs.Shapes.{IsShaped}

-- A function gives nothing, a scalar or a whole structure. Its parameters, which its type may list, are the first of its locals, and
-- are scalars or whole structures. The locals behind them have sizes, too; those of its blocks follow in order.
pub record IsOpenFunction (tags : List Tag) (f : FunctionTree) : Type 0 where
  pub type : is_function f.of ≡ true
  pub result : is_result tags (result_type f.of) ≡ true
  pub listed : AreParameters (parameters_type f.of) (take f.parameters f.locals)
  pub sized : AreSized tags (take f.parameters f.locals)
  pub locals : EachIs (IsOpenLocal tags) (drop f.parameters f.locals)
  pub blocks : are_next f.parameters f.body ≡ true
  pub all : declared f ≡ length f.locals
  pub once : are_apart (labels f.body) ≡ true
  pub shaped : IsShaped (length f.locals) (labels f.body) f.body
  pub body : IsOpenStmt tags (result_type f.of) f.body

abbrev pub IsOpenDefined : List Tag → DefinedFunction → Type 0
IsOpenDefined tags d = IsOpenFunction tags d.function

-- its functions, and its objects with static storage
pub record PartsFit (tags : List Tag) (p : Parts) : Type 0 where
  pub functions : EachIs (IsOpenDefined tags) p.functions
  pub objects : EachIs (IsOpenObject tags) p.objects

-- Of static storage each value is a constant or an address constant, over the types that the unit's objects have in the end, or a
-- string over an array.
abbrev pub IsStaticPlace : List Tag → List Defined → FilledOf CType → Type 0
IsStaticPlace tags os p = is_array p.of ≡ false → is_static_value tags (over os p.value) ≡ true

abbrev pub IsStaticObject : List Tag → List Defined → Defined → Type 0
IsStaticObject tags os o = EachIs (IsStaticPlace tags os) o.object.places
