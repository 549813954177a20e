use Rattle.std.proofs.Common.{rules}
use Rattle.asm_lines.specs.Tokens.{views}
use Rattle.asm_lines.proofs.InstructionReads.{name_last}
use Rattle.asm_lines.proofs.instruction_reader.register_value_and_name.Goals as goal

pub returns-in_default-clause-none : goal.returns-in_default-clause-none
returns-in_default-clause-none c = λ s t name p. c.in_default.ensures.none s p.0 p.3

pub returns-clause-some : goal.returns-clause-some
returns-clause-some c =
    name_last (views c.args.tokens.now) (views c.in-Some.rest.now) _ (views c.in-Some-value.rest.now) _ (views c.in_ok-comma.field-0.now) c.in-Some.register _ c.in-Some-value.value _ c.in_ok-name.name.now c.in-Some.ensures.some (search rules) (search rules) c.in-Some-value.ensures.some (search rules) (search rules) c.in_ok-comma.ensures.some c.in_ok-name.ensures.some
