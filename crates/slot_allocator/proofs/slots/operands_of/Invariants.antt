use Rattle.std.proofs.Common.{◌≡◌, take}
use Rattle.slot_allocator.proofs.slots.operands_of.Given as goal

-- the operands so far
abbrev pub invariant-loop-n : goal.invariant-loop-n
invariant-loop-n g l = record {
  front : l.operands.items ≡ take l.n (g.T.Target.machine.operands l.instr);
}
