-- The parameters of a definition, over a table of types.
use Rattle.std.specs.Prelude.{ℕ, List, []}
use Rattle.c_types.specs.CType.{CType}
use Rattle.c_types.specs.Table.{Table}
use Rattle.c_meaning.specs.State.{State}
use Rattle.c_check_expr.specs.PartsSeen.{AreParametersIn, parameters_seen}
use Rattle.c_units.specs.Functions.{listed_types, types_of}
use Rattle.c_check_function.specs.declared.parameters.Parameters.{Parameters}
use Rattle.c_check_function.specs.declared.parameters.Parameters.TheVariants as own

abbrev pub own_names : Parameters → List (List ℕ)
own_names (own.Typed ps) = []
own_names (own.Named names) = names

abbrev pub own_types : State → Table → Parameters → List CType
own_types s t (own.Typed ps) = types_of (parameters_seen t ps)
own_types s t (own.Named names) = listed_types s names

-- their types stand below this place
abbrev pub AreOwnIn : ℕ → Parameters → Type 0
AreOwnIn n (own.Typed ps) = AreParametersIn n ps
AreOwnIn n (own.Named names) = Unit {0}
