use Rattle.asm_lines.specs.Tokens.{views}
use Rattle.asm_lines.proofs.OperandReads.{if_none, no_value}
use Rattle.asm_lines.proofs.operand_reader.value.Goals as goal

pub returns-in_err-number-in-None-clause-none : goal.returns-in_err-number-in-None-clause-none
returns-in_err-number-in-None-clause-none c = if_none c.from_residual.result (no_value (views c.args.tokens.now) c.in-None.ensures.none c.in_err-number-in-None.ensures.none)
