use Rattle.std.proofs.Common.{◌≡◌, ◌++◌, drop}
use Rattle.slot_allocator.specs.Slots.{stores}
use Rattle.slot_allocator.proofs.slots.push_stores.Given as goal

-- what was pushed, and the stores of the operands that are left, are all stores
abbrev pub invariant-loop-n : goal.invariant-loop-n
invariant-loop-n g l =
    l.into ++ stores g.T.Target.machine (drop l.n l.temporaries) (drop l.n l.operands) ≡ l.fn.into ++ stores g.T.Target.machine l.temporaries l.operands
