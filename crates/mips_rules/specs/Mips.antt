-- The machine that the target MIPS is: the instructions, and what they lose there.
-- Source: G. Kane and J. Heinrich, MIPS RISC Architecture, 1992.
use Rattle.vcode.specs.Machines.{Machine}
use Rattle.frame_code.specs.declared.instr.Instr.{Instr}
use Rattle.frame_code.specs.FrameMachine.{frame_machine}
use Rattle.mips_rules.specs.Losses.{mips_losses}

-- $29 is the stack pointer
abbrev pub mips : Machine Instr
mips = frame_machine mips_losses 29
