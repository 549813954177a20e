use Rattle.std.proofs.Common.{ap, ◌∙◌}
use Rattle.c_meaning.specs.Values.{value}
use Rattle.c_values.specs.Stays.{grows_on, in_later, seen_stays}
use Rattle.c_check_expr.proofs.operand_values.into_two_values.Goals as goal

pub into_value-requires-2 : goal.into_value-requires-2
into_value-requires-2 c = in_later c.args.types.now c.into_value.new.types c.into_value.ensures.grows.extends c.args.b c.requires.b

pub returns-in_err-w-clause-grows : goal.returns-in_err-w-clause-grows
returns-in_err-w-clause-grows c = grows_on c.args.types.now c.into_value.new.types c.into_value-2.new.types c.into_value.ensures.grows c.into_value-2.ensures.grows

pub returns-clause-first : goal.returns-clause-first
returns-clause-first c = seen_stays c.into_value.new.types c.into_value-2.new.types c.into_value-2.ensures.grows.extends c.in_ok-v.v c.in_ok-v.ensures.within ∙ c.in_ok-v.ensures.means

pub returns-clause-second : goal.returns-clause-second
returns-clause-second c = c.in_ok-w.ensures.means ∙ ap value (seen_stays c.args.types.now c.into_value.new.types c.into_value.ensures.grows.extends c.args.b c.requires.b)

pub returns-clause-first_within : goal.returns-clause-first_within
returns-clause-first_within c = in_later c.into_value.new.types c.into_value-2.new.types c.into_value-2.ensures.grows.extends c.in_ok-v.v c.in_ok-v.ensures.within

pub returns-clause-grows : goal.returns-clause-grows
returns-clause-grows c = grows_on c.args.types.now c.into_value.new.types c.into_value-2.new.types c.into_value.ensures.grows c.into_value-2.ensures.grows
