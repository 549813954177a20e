use Rattle.std.proofs.Common.{◌≡◌, ◌++◌, drop}
use Rattle.slot_allocator.specs.Slots.{loads}
use Rattle.slot_allocator.proofs.slots.push_loads.Given as goal

-- what was pushed, and the loads of the operands that are left, are all loads
abbrev pub invariant-loop-n : goal.invariant-loop-n
invariant-loop-n g l =
    l.into ++ loads g.T.Target.machine (drop l.n l.temporaries) (drop l.n l.operands) ≡ l.fn.into ++ loads g.T.Target.machine l.temporaries l.operands
