use Rattle.lburg_lines.specs.Tokens.{views}
use Rattle.lburg_faults.proofs.DeclareText.{not_named, not_equal_at, not_digits_at, named, long}
use Rattle.lburg_faults.proofs.declared.terminal_at.Goals as goal

pub returns-in-Err-clause-none : goal.returns-in-Err-clause-none
returns-in-Err-clause-none c = not_named (views c.args.tokens.now) c.in-Err.ensures.no

pub returns-in-Err-after_sign-clause-none : goal.returns-in-Err-after_sign-clause-none
returns-in-Err-after_sign-clause-none c = not_equal_at (views c.args.tokens.now) (views c.in-Ok.rest.now) c.in-Ok.name.now c.in-Ok.ensures.ok c.in-Err-after_sign.ensures.no

pub returns-in-None-clause-none : goal.returns-in-None-clause-none
returns-in-None-clause-none c = not_digits_at (views c.args.tokens.now) (views c.in-Ok.rest.now) (views c.in-Ok-after_sign.rest.now) c.in-Ok.name.now c.in-Ok.ensures.ok c.in-Ok-after_sign.ensures.ok c.in-None.ensures.none

pub returns-in-Some-clause-some : goal.returns-in-Some-clause-some
returns-in-Some-clause-some c = named c.args.tokens.now (views c.in-Ok.rest.now) (views c.in-Ok-after_sign.rest.now) (views c.in-Some.field-0.now) c.in-Ok.name.now c.in-Some.ensures.some.0 c.in-Ok.ensures.ok c.in-Ok-after_sign.ensures.ok c.in-Some.ensures.some.1

pub returns-in-Some-clause-long : goal.returns-in-Some-clause-long
returns-in-Some-clause-long c = long c.args.tokens.now (views c.in-Ok.rest.now) (views c.in-Ok-after_sign.rest.now) (views c.in-Some.field-0.now) c.in-Ok.name.now c.in-Some.ensures.some.0 c.in-Ok.ensures.ok c.in-Ok-after_sign.ensures.ok c.in-Some.ensures.some.1
