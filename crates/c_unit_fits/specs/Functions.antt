-- What a typed function promises while a unit is checked, where names are symbols.
-- Source: C89 3.7.1, 3.5.4.3.
use Rattle.std.specs.Prelude.{◌≡◌, true, List, length}
use Rattle.c_types.specs.CType.{CType}
use Rattle.c_types.specs.Layout.{Tag}
use Rattle.c_meaning.specs.Each.{EachIs}
use Rattle.c_meaning.specs.Fits.{is_whole}
use Rattle.c_meaning.specs.Rows.{parameters_type, result_type}
use Rattle.c_meaning.specs.Types.{is_function}
use Rattle.c_meaning.specs.Units.{AreParameters, is_result}
use Rattle.c_units.specs.Bodies.{done}
use Rattle.c_units.specs.Functions.{TypedFunction}
use Rattle.c_fits.specs.OpenDeclares.{IsOpenLocal}
use Rattle.c_unit_fits.specs.OpenStmts.{BodyFits, IsOpenStmt}
use Rattle.c_unit_fits.specs.Shapes.{HasShape}

-- parameters have sizes, and are scalars or whole structures
abbrev pub AreSized : List Tag → List CType → Type 0
AreSized tags ts = EachIs (IsOpenLocal tags) ts × EachIs (λ t. is_whole tags t ≡ true) ts

-- It has a function's type, with a result that is void or whole. Its first locals are its parameters, which the type lists. Its labels
-- and the locals of its blocks are as they should be, and its statements fit. The locals behind its parameters have sizes, and so have
-- the objects with static storage of its blocks, which fit.
pub record FunctionFits (tags : List Tag) (f : TypedFunction) : Type 0 where
  pub type : is_function f.function.function.of ≡ true
  pub result : is_result tags (result_type f.function.function.of) ≡ true
  pub first : List CType
  pub parameters : length first ≡ f.function.function.parameters
  pub listed : AreParameters (parameters_type f.function.function.of) first
  pub sized : AreSized tags first
  pub has : BodyFits tags first f.body
  pub shape : HasShape f.function.function.parameters (done f.body f.function.function.body)
  pub body : IsOpenStmt tags (result_type f.function.function.of) f.function.function.body
