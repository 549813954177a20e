-- What a fault of an assembly text gives as the answer to the text: the refusal that tells its line with its name or its
-- limit. Want of memory is no refusal.
use Rattle.asm_text.specs.declared.asm_fault.AsmFault.{AsmFault}
use Rattle.asm_text.specs.declared.asm_fault.AsmFault.TheVariants as assembly
use Rattle.outcomes.specs.declared.fault_name.FaultName.TheVariants as name
use Rattle.outcomes.specs.declared.outcome.Outcome.{Outcome}
use Rattle.outcomes.specs.declared.outcome.Outcome.TheVariants.{Refused, Memory}
use Rattle.outcomes.specs.declared.outcome.Refusal.TheVariants.{Fault, Limit}

abbrev pub of_assembly : AsmFault → Outcome
of_assembly (assembly.BadLine n) = Refused (Fault n name.BadLine)
of_assembly (assembly.UnknownInstruction n) = Refused (Fault n name.UnknownInstruction)
of_assembly (assembly.BadOperand n) = Refused (Fault n name.BadOperand)
of_assembly (assembly.DoubleLabel n) = Refused (Fault n name.DoubleLabel)
of_assembly (assembly.UnknownLabel n) = Refused (Fault n name.UnknownLabel)
of_assembly (assembly.TooLarge n passed) = Refused (Limit n passed)
of_assembly assembly.Memory = Memory
