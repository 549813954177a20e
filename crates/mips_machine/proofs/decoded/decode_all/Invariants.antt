use Rattle.std.proofs.Common.{◌≡◌, map, take}
use Rattle.mips_machine.specs.InstructionOf.{instruction_of}
use Rattle.mips_machine.proofs.decoded.decode_all.Given as goal

abbrev pub invariant-loop-instruction : goal.invariant-loop-instruction
invariant-loop-instruction l = map instruction_of l.decoded.items ≡ take l.instruction-index l.code
