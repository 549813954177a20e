use Rattle.std.proofs.Common.{refl}
use Rattle.c_ast.specs.InForce.{nothing_in_force}
use Rattle.c_ast.specs.UnitMarks.{unit}
use Rattle.c_ast.proofs.Questions.{classed}
use Rattle.c_ast.specs.Examples.{prototype_ends, function_parameter, own_parameters, label, size_of_type, enumerator_later}
use Rattle.c_ast.proofs.worked.scopes_and_types.Goals as goal

pub returns : goal.returns
returns c = record {
  prototype_ends = classed (unit prototype_ends) nothing_in_force refl;
  function_parameter = classed (unit function_parameter) nothing_in_force refl;
  parameter_in_parentheses = refl;
  own_parameters = classed (unit own_parameters) nothing_in_force refl;
  own_parameters_wrong = refl;
  label = classed (unit label) nothing_in_force refl;
  size_of_type = classed (unit size_of_type) nothing_in_force refl;
  size_of_cast = refl;
  enumerator_later = classed (unit enumerator_later) nothing_in_force refl;
}
