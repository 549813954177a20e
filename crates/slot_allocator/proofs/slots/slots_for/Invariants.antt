use Rattle.std.proofs.Common.{◌≡◌, drop, max}
use Rattle.slot_allocator.specs.SlotCounts.{slots_for}
use Rattle.slot_allocator.proofs.slots.slots_for.Given as goal

-- with the operands that are left, the slots so far are all
abbrev pub invariant-loop-operand : goal.invariant-loop-operand
invariant-loop-operand l = max l.slots (slots_for (drop l.operand-index l.operands)) ≡ slots_for l.operands
