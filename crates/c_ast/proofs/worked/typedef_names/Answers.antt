use Rattle.std.proofs.Common.{refl}
use Rattle.c_ast.specs.InForce.{nothing_in_force}
use Rattle.c_ast.specs.UnitMarks.{unit}
use Rattle.c_ast.proofs.Questions.{classed}
use Rattle.c_ast.specs.Examples.{hidden_difference, shown_cast}
use Rattle.c_ast.proofs.worked.typedef_names.Goals as goal

pub returns : goal.returns
returns c = record {
  hidden_difference = classed (unit hidden_difference) nothing_in_force refl;
  hidden_cast = refl;
  shown_cast = classed (unit shown_cast) nothing_in_force refl;
  shown_difference = refl;
  tokens = refl;
  same_tokens = refl;
}
