use Rattle.std.proofs.Common.{◌≡◌, map, take}
use Rattle.c_check_expr.proofs.step_types.places.Given as goal

abbrev pub invariant-loop-parameter : goal.invariant-loop-parameter
invariant-loop-parameter l = l.ids ≡ map (λ p. p.of) (take l.parameter-index l.parameters)
