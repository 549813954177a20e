use Rattle.std.proofs.Common.{◌≡◌, drop}
use Rattle.op_forest.specs.Frames.{lowest_from}
use Rattle.op_forest.proofs.frame.lowest_from.Given as goal

abbrev pub invariant-loop-slot : goal.invariant-loop-slot
invariant-loop-slot l = lowest_from l.lowest (drop l.slot-index l.slots) ≡ lowest_from l.place l.slots
