use Rattle.std.proofs.Common.{◌≡◌, map, take}
use Rattle.std.specs.List.{flat_map}
use Rattle.first_form.specs.Expression.{expression_of}
use Rattle.first_forest.specs.FirstForest.{print_roots}
use Rattle.first_forest.proofs.statements.program_roots.Given as goal

abbrev pub invariant-loop-printed : goal.invariant-loop-printed
invariant-loop-printed l = l.roots ≡ flat_map print_roots (map expression_of (take l.printed-index l.program.prints))
