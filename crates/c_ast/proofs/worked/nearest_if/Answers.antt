use Rattle.std.proofs.Common.{refl}
use Rattle.c_ast.specs.InForce.{nothing_in_force}
use Rattle.c_ast.specs.UnitMarks.{unit}
use Rattle.c_ast.proofs.Questions.{classed}
use Rattle.c_ast.specs.Examples.{nearest_else}
use Rattle.c_ast.proofs.worked.nearest_if.Goals as goal

pub returns : goal.returns
returns c = record {
  nearest = classed (unit nearest_else) nothing_in_force refl;
  farthest = refl;
  same_tokens = refl;
}
