-- A statement's fault, told with its line.
use Rattle.std.specs.Prelude.{ℕ}
use Rattle.asm_lines.specs.declared.fault.StatementFault.{StatementFault}
use Rattle.asm_lines.specs.declared.fault.StatementFault.TheVariants as statement_fault
use Rattle.asm_text.specs.declared.asm_fault.AsmFault.{AsmFault}
use Rattle.asm_text.specs.declared.asm_fault.AsmFault.TheVariants.{BadLine, UnknownInstruction, BadOperand, Memory}

abbrev pub fault_at : ℕ → StatementFault → AsmFault
fault_at line statement_fault.BadLine = BadLine line
fault_at line statement_fault.UnknownInstruction = UnknownInstruction line
fault_at line statement_fault.BadOperand = BadOperand line
fault_at line statement_fault.Memory = Memory
