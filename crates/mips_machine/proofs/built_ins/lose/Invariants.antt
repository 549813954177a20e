use Rattle.std.proofs.Common.{◌≡◌, drop}
use Rattle.mips_machine.specs.StepTable.{lost, without}
use Rattle.mips_machine.proofs.built_ins.lose.Given as goal

abbrev pub invariant-loop-r : goal.invariant-loop-r
invariant-loop-r l = without (drop l.r-index lost) l.registers ≡ without lost l.initial.registers
