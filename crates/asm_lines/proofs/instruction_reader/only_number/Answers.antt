use Rattle.std.proofs.Common.{[]}
use Rattle.asm_lines.proofs.OperandReads.{if_none}
use Rattle.asm_lines.proofs.instruction_reader.only_number.Goals as goal

pub returns-in_err-number-clause-none : goal.returns-in_err-number-clause-none
returns-in_err-number-clause-none c = if_none c.from_residual.result (λ n p. c.in_err-number.ensures.none n [] p)
