use Rattle.std.proofs.Common.{[], rules}
use Rattle.asm_lines.specs.Tokens.{views}
use Rattle.asm_lines.specs.Numbers.{IsNumber}
use Rattle.asm_lines.proofs.OperandReads.{if_none}
use Rattle.asm_lines.proofs.InstructionReads.{behind_register}
use Rattle.asm_lines.proofs.instruction_reader.register_and_number.Goals as goal

pub returns-in_default-clause-none : goal.returns-in_default-clause-none
returns-in_default-clause-none c = λ d n p. c.in_default.ensures.none d p.0 p.1

pub returns-in_err-only_number-clause-none : goal.returns-in_err-only_number-clause-none
returns-in_err-only_number-clause-none c = if_none c.from_residual.result (λ d n p. c.in_err-only_number.ensures.none n (behind_register (λ l. IsNumber l n []) (views c.args.tokens.now) (views c.in-Some.rest.now) p.0 _ c.in-Some.register d c.in-Some.ensures.some (search rules) p.1 p.2))
