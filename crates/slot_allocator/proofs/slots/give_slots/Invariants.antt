use Rattle.std.proofs.Common.{◌≡◌, ◌++◌, ◌^◌, max}
use Rattle.std.specs.Vec.Iter.{into_iter_items}
use Rattle.vcode.specs.VirtualCode.{NamesBelow}
use Rattle.slot_allocator.specs.Slots.{allotted}
use Rattle.slot_allocator.specs.SlotCounts.{slots_needed}
use Rattle.slot_allocator.proofs.slots.give_slots.Given as goal

-- what was pushed and what the instructions that are left become, and the slots of both
abbrev pub invariant-loop-instr : goal.invariant-loop-instr
invariant-loop-instr g l = record {
  pushed : l.into ++ allotted g.T.Target.machine l.temporaries (into_iter_items l.instr-iterator) ≡ allotted g.T.Target.machine l.temporaries l.fn.code.code;
  slots : max l.slots (slots_needed g.T.Target.machine (into_iter_items l.instr-iterator)) ≡ slots_needed g.T.Target.machine l.fn.code.code;
  below : NamesBelow g.T.Target.machine (2 ^ 31) (into_iter_items l.instr-iterator);
}
