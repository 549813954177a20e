use Rattle.std.proofs.Common.{rules}
use Rattle.asm_lines.specs.Tokens.{views}
use Rattle.asm_lines.specs.Operands.{RegisterComma}
use Rattle.asm_lines.proofs.InstructionReads.{behind_register}
use Rattle.asm_lines.proofs.instruction_reader.registers_and_value.Goals as goal

pub returns-in_default-clause-none : goal.returns-in_default-clause-none
returns-in_default-clause-none c = λ d s t p. c.in_default.ensures.none d p.0 p.2

pub returns-in_default-register_comma-clause-none : goal.returns-in_default-register_comma-clause-none
returns-in_default-register_comma-clause-none c = λ d s t p. c.in_default-register_comma.ensures.none s p.1 (behind_register (λ l. RegisterComma l s p.1) (views c.args.tokens.now) (views c.in-Some.rest.now) p.0 _ c.in-Some.first d c.in-Some.ensures.some (search rules) p.2 p.3)
