use Rattle.std.proofs.Common.{◌∙◌}
use Rattle.c_types.specs.Table.{tags, type_at}
use Rattle.c_meaning.specs.CoreTrees.{seen}
use Rattle.c_meaning.specs.Nodes as node
use Rattle.c_meaning.specs.Values.{value}
use Rattle.c_values.specs.declared.check_fault.CheckFault.{CheckFault}
use Rattle.c_check_expr.specs.AtNode.{IsRefused}
use Rattle.c_check_expr.proofs.ChoiceNode.{choice_deep_type, choice_deep_values, choice_fine, choice_takes, values_choose, values_chosen}
use Rattle.c_check_expr.proofs.NodeLimits.{node_broken}
use Rattle.c_check_expr.proofs.NodeTells.{passed_on}
use Rattle.c_values.specs.Stays.{grows_on, in_later, seen_stays}
use Rattle.c_check_expr.proofs.conditional.conditional.Goals as goal

pub returns-in-Some-clause-err : goal.returns-in-Some-clause-err
returns-in-Some-clause-err c =
    let t = type_at c.args.types.now in
    λ s h. node_broken s c.args.line c.in-Some.number (node.Conditional (seen t c.args.a) (seen t c.args.b) (seen t c.args.c)) (c.broken.ensures s h ∙ c.in-Some.is)

pub returns-in_err-u-clause-err : goal.returns-in_err-u-clause-err
returns-in_err-u-clause-err c =
    let t = type_at c.args.types.now in
    passed_on c.from_residual.result c.in_err-u.field-0.0
    (λ (e : CheckFault). IsRefused c.args.types.now c.args.line (node.Conditional (seen t c.args.a) (seen t c.args.b) (seen t c.args.c)) e)
    c.from_residual.ensures.1
    (choice_deep_values c.args.types.now c.types_are_within_limits.ensures c.args.line c.args.a c.args.b c.args.c c.requires.a c.requires.b c.requires.c (λ s h. c.broken.ensures s h ∙ c.in_default.is) c.in_err-u.field-0.0 c.in_err-u.ensures.deep)

pub chosen_type-requires-clause-fits : goal.chosen_type-requires-clause-fits
chosen_type-requires-clause-fits c =
    let t = type_at c.args.types.now in
    let u = type_at c.into_three_values.new.types in
    let takes = choice_takes (tags c.args.types.now) (seen t c.args.a) (seen t c.args.b) (seen t c.args.c) (λ s h. c.broken.ensures s h ∙ c.in_default.is) in
    values_choose (seen u c.in_ok-u.v) (seen u c.in_ok-u.w) (value (seen t c.args.b)) (value (seen t c.args.c)) c.in_ok-u.ensures.second c.in_ok-u.ensures.third takes

pub returns-in_err-of-clause-err : goal.returns-in_err-of-clause-err
returns-in_err-of-clause-err c =
    let t = type_at c.args.types.now in
    let u = type_at c.into_three_values.new.types in
    passed_on c.from_residual-in_err-of.result c.in_err-of.field-0.0
    (λ (e : CheckFault). IsRefused c.args.types.now c.args.line (node.Conditional (seen t c.args.a) (seen t c.args.b) (seen t c.args.c)) e)
    c.from_residual-in_err-of.ensures.1
    (choice_deep_type c.args.types.now c.types_are_within_limits.ensures c.args.line c.args.a c.args.b c.args.c c.requires.a c.requires.b c.requires.c (λ s h. c.broken.ensures s h ∙ c.in_default.is) c.in_err-of.field-0.0 (seen u c.in_ok-u.v) (seen u c.in_ok-u.w) c.in_ok-u.ensures.second c.in_ok-u.ensures.third c.in_err-of.ensures.deep)

pub returns-in_err-of-clause-grows : goal.returns-in_err-of-clause-grows
returns-in_err-of-clause-grows c = grows_on c.args.types.now c.into_three_values.new.types c.chosen_type.new.types c.into_three_values.ensures.grows c.chosen_type.ensures.grows

pub chosen-requires-clause-test : goal.chosen-requires-clause-test
chosen-requires-clause-test c = in_later c.into_three_values.new.types c.chosen_type.new.types c.chosen_type.ensures.grows.extends c.in_ok-u.u c.in_ok-u.ensures.first_within

pub chosen-requires-clause-first : goal.chosen-requires-clause-first
chosen-requires-clause-first c = in_later c.into_three_values.new.types c.chosen_type.new.types c.chosen_type.ensures.grows.extends c.in_ok-u.v c.in_ok-u.ensures.second_within

pub chosen-requires-clause-second : goal.chosen-requires-clause-second
chosen-requires-clause-second c = in_later c.into_three_values.new.types c.chosen_type.new.types c.chosen_type.ensures.grows.extends c.in_ok-u.w c.in_ok-u.ensures.third_within

pub returns-in_err-core-clause-grows : goal.returns-in_err-core-clause-grows
returns-in_err-core-clause-grows c = grows_on c.args.types.now c.into_three_values.new.types c.chosen_type.new.types c.into_three_values.ensures.grows c.chosen_type.ensures.grows

pub returns-clause-ok : goal.returns-clause-ok
returns-clause-ok c =
    let old = c.args.types.now in
    let mid = c.into_three_values.new.types in
    let new = c.chosen_type.new.types in
    let t = type_at old in
    let u = type_at mid in
    let stays = seen_stays mid new c.chosen_type.ensures.grows.extends in
    let later = in_later mid new c.chosen_type.ensures.grows.extends in
    let chosen_is = c.in_ok-of.ensures.means ∙ values_chosen (seen u c.in_ok-u.v) (seen u c.in_ok-u.w) (value (seen t c.args.b)) (value (seen t c.args.c)) c.in_ok-u.ensures.second c.in_ok-u.ensures.third in
    choice_fine old new c.types_are_within_limits-2.ensures (c.chosen_type.ensures.grows.tags_same ∙ c.into_three_values.ensures.grows.tags_same) c.args.line (seen t c.args.a) (seen t c.args.b) (seen t c.args.c) c.in_ok-of.of c.in_ok-u.u c.in_ok-u.v c.in_ok-u.w c.in_ok-core.core (λ s h. c.broken.ensures s h ∙ c.in_default.is)
    (stays c.in_ok-u.u c.in_ok-u.ensures.first_within ∙ c.in_ok-u.ensures.first)
    (later c.in_ok-u.u c.in_ok-u.ensures.first_within)
    (stays c.in_ok-u.v c.in_ok-u.ensures.second_within ∙ c.in_ok-u.ensures.second)
    (later c.in_ok-u.v c.in_ok-u.ensures.second_within)
    (stays c.in_ok-u.w c.in_ok-u.ensures.third_within ∙ c.in_ok-u.ensures.third)
    (later c.in_ok-u.w c.in_ok-u.ensures.third_within)
    chosen_is
    c.in_ok-core.ensures.means
    c.in_ok-core.ensures.within

pub returns-clause-grows : goal.returns-clause-grows
returns-clause-grows c = grows_on c.args.types.now c.into_three_values.new.types c.chosen_type.new.types c.into_three_values.ensures.grows c.chosen_type.ensures.grows
