-- The node of a prototype's parameter, with what its name makes known.
use Rattle.std.specs.Prelude.{ℕ, Option, List}
use Rattle.c_ast.specs.declared.specifier.Storage.{Storage}
use Rattle.c_types.specs.CType.{CType}
use Rattle.c_meaning.specs.Nodes as node
use Rattle.c_meaning.specs.State.{State}
use Rattle.c_meaning.specs.TypeRows.{adjusted, with_parameter}
use Rattle.c_meaning.specs.Typing.{Outcome, at}
use Rattle.c_check_expr.specs.declared.parameters.ParameterSpot.{ParameterSpot}

abbrev pub parameter_at : State → ParameterSpot → List Storage → Option (List ℕ) → CType → Outcome node.NamedParameter
parameter_at s spot classes name of =
    at s spot.line (node.Typing (node.Parameter classes name of spot.alone)) (with_parameter s spot.line spot.index classes name (adjusted of)) (record { name = name; of = adjusted of })
