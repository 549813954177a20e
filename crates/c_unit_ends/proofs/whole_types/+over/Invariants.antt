use Rattle.std.proofs.Common.{◌≡◌, map, take}
use Rattle.c_unit_ends.specs.Over.{over_places}
use Rattle.c_unit_ends.proofs.whole_types.+over.Given as goal

abbrev pub invariant-all_over-loop-c : goal.invariant-all_over-loop-c
invariant-all_over-loop-c l = l.all ≡ map (over_places l.objects) (take l.c-index l.list)
