use Rattle.std.proofs.Common.{◌≡◌, map, take}
use Rattle.c_check_function.proofs.parameters.types_in.Given as goal

abbrev pub invariant-loop-p : goal.invariant-loop-p
invariant-loop-p l = l.all ≡ map (λ p. p.of) (take l.p-index l.list)
