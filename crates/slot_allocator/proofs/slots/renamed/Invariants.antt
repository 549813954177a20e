use Rattle.std.proofs.Common.{◌≡◌, length, drop}
use Rattle.slot_allocator.specs.Slots.{renamed}
use Rattle.slot_allocator.proofs.slots.renamed.Given as goal

-- the instruction has as many operands as before, and the names that are left are still to be given
abbrev pub invariant-loop-n : goal.invariant-loop-n
invariant-loop-n g l = record {
  rest : renamed g.T.Target.machine l.n (drop l.n l.temporaries) (drop l.n l.operands) l.instr ≡ renamed g.T.Target.machine 0 l.temporaries l.operands l.fn.instr;
  long : length (g.T.Target.machine.operands l.instr) ≡ length l.operands;
}
