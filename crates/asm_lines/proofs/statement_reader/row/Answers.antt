use Rattle.asm_lines.specs.Tokens.{views}
use Rattle.asm_lines.proofs.StatementReads.{no_instruction_row}
use Rattle.asm_lines.proofs.statement_reader.row.Goals as goal

pub returns-in-None-clause-only : goal.returns-in-None-clause-only
returns-in-None-clause-only c = λ s p. absurd (no_instruction_row (views c.args.operands.now) c.args.word c.in-Instruction.mnemonic c.in-Instruction.is c.in-None.ensures.none s p)
