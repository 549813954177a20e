use Rattle.std.proofs.Common.{◌≡◌, ◌++◌, drop}
use Rattle.forests.specs.SlotTables.{reaches_from, reaches}
use Rattle.forests.proofs.slots.reaches_of.Given as goal

abbrev pub invariant-loop-slot : goal.invariant-loop-slot
invariant-loop-slot l = l.table.items ++ reaches_from l.end (drop l.slot-index l.sorted) ≡ reaches l.sorted
