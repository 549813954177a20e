use Rattle.std.proofs.Common.{ap, ◌∙◌, [], ◌∷◌}
use Rattle.c_meaning.specs.CoreTrees.{seen}
use Rattle.c_meaning.specs.Values.{value, value_type}
use Rattle.c_types.specs.Table.{type_at}
use Rattle.c_check_expr.proofs.NodeTells.{passed_deep}
use Rattle.c_values.specs.Stays.{grows_on, in_later, seen_stays}
use Rattle.c_check_expr.proofs.operand_values.into_three_values.Goals as goal

pub into_value-requires : goal.into_value-requires
into_value-requires c = in_later c.args.types.now c.into_two_values.new.types c.into_two_values.ensures.grows.extends c.args.c c.requires.c

pub returns-in_err-w-clause-deep : goal.returns-in_err-w-clause-deep
returns-in_err-w-clause-deep c =
    let t = type_at c.args.types.now in
    passed_deep (type_at c.into_two_values.new.types) t c.args.line (value_type (seen t c.args.a) ∷ value_type (seen t c.args.b) ∷ []) c.args.c (seen_stays c.args.types.now c.into_two_values.new.types c.into_two_values.ensures.grows.extends c.args.c c.requires.c) c.from_residual-in_err-w.result c.in_err-w.field-0.0 c.from_residual-in_err-w.ensures.1 c.in_err-w.ensures.deep

pub returns-in_err-w-clause-grows : goal.returns-in_err-w-clause-grows
returns-in_err-w-clause-grows c = grows_on c.args.types.now c.into_two_values.new.types c.into_value.new.types c.into_two_values.ensures.grows c.into_value.ensures.grows

pub returns-clause-first : goal.returns-clause-first
returns-clause-first c = seen_stays c.into_two_values.new.types c.into_value.new.types c.into_value.ensures.grows.extends c.in_ok-u.u c.in_ok-u.ensures.first_within ∙ c.in_ok-u.ensures.first

pub returns-clause-second : goal.returns-clause-second
returns-clause-second c = seen_stays c.into_two_values.new.types c.into_value.new.types c.into_value.ensures.grows.extends c.in_ok-u.v c.in_ok-u.ensures.second_within ∙ c.in_ok-u.ensures.second

pub returns-clause-third : goal.returns-clause-third
returns-clause-third c = c.in_ok-w.ensures.means ∙ ap value (seen_stays c.args.types.now c.into_two_values.new.types c.into_two_values.ensures.grows.extends c.args.c c.requires.c)

pub returns-clause-first_within : goal.returns-clause-first_within
returns-clause-first_within c = in_later c.into_two_values.new.types c.into_value.new.types c.into_value.ensures.grows.extends c.in_ok-u.u c.in_ok-u.ensures.first_within

pub returns-clause-second_within : goal.returns-clause-second_within
returns-clause-second_within c = in_later c.into_two_values.new.types c.into_value.new.types c.into_value.ensures.grows.extends c.in_ok-u.v c.in_ok-u.ensures.second_within

pub returns-clause-grows : goal.returns-clause-grows
returns-clause-grows c = grows_on c.args.types.now c.into_two_values.new.types c.into_value.new.types c.into_two_values.ensures.grows c.into_value.ensures.grows
