use Rattle.std.proofs.Common.{rules}
use Rattle.asm_lines.specs.Tokens.{views}
use Rattle.asm_lines.specs.Operands.{IsAddress}
use Rattle.asm_lines.proofs.InstructionReads.{behind_register}
use Rattle.asm_lines.proofs.instruction_reader.register_and_address.Goals as goal

pub returns-in_default-clause-none : goal.returns-in_default-clause-none
returns-in_default-clause-none c = λ d a p. c.in_default.ensures.none d p.0 p.1

pub returns-in-None-clause-none : goal.returns-in-None-clause-none
returns-in-None-clause-none c = λ d a p. c.in-None.ensures.none a (behind_register (λ l. IsAddress l a) (views c.args.tokens.now) (views c.in-Some.rest.now) p.0 _ c.in-Some.register d c.in-Some.ensures.some (search rules) p.1 p.2)
