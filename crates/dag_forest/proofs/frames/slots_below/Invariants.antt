use Rattle.std.proofs.Common.{◌≡◌}
use Rattle.dag_forest.specs.NewSlots.{slots_below}
use Rattle.dag_forest.proofs.frames.slots_below.Given as goal

abbrev pub invariant-loop-n : goal.invariant-loop-n
invariant-loop-n l = l.slots.items ≡ slots_below l.lowest l.n
