use Rattle.std.proofs.Common.{◌∙◌, sym, ap}
use Rattle.std.specs.Prelude.{Some, None}
use Rattle.c_types.specs.Table.{member_seen, tags, type_at, types}
use Rattle.c_meaning.specs.CoreTrees.{seen}
use Rattle.c_meaning.specs.Types.{is_pointer, target}
use Rattle.c_check_expr.proofs.MemberNodes.{arrow_broken, arrow_fine, arrow_no_pointer, member_found, member_qualified, place_within}
use Rattle.c_values.specs.Stays.{grows_on}
use Rattle.c_check_expr.proofs.TableLimits.{shallow_at, small_at, small_in}
use Rattle.c_check_expr.proofs.member_access.member_through_pointer.Goals as goal

pub returns-in_default-clause-err : goal.returns-in_default-clause-err
returns-in_default-clause-err c = λ s h.
    arrow_no_pointer s c.args.line (seen (type_at c.args.types.now) c.args.a) c.args.name.now (ap is_pointer (sym c.value_type.ensures.is) ∙ c.in_default.ensures.none)

pub returns-in_err-reached-in-Some-2-clause-grows : goal.returns-in_err-reached-in-Some-2-clause-grows
returns-in_err-reached-in-Some-2-clause-grows c = grows_on c.args.types.now c.into_value.new.types c.reached.new.types c.in_ok-v-in-Some-2.ensures.grows c.in_err-reached-in-Some-2.ensures.grows

pub returns-in_ok-reached-in-Some-2-clause-ok : goal.returns-in_ok-reached-in-Some-2-clause-ok
returns-in_ok-reached-in-Some-2-clause-ok c = λ s h.
    let t = c.args.types.now in
    let p = c.in-Some-2.place in
    let to = c.in-Some.to in
    let x = c.args.name.now in
    let w = c.types_are_within_limits.ensures in
    let a = seen (type_at t) c.args.a in
    let l = place_within _ c.in_ok-place.field-0 p c.in_ok-place.ensures.within c.in-Some-2.is in
    let there = ap target (sym c.value_type.ensures.is) ∙ c.in-Some.ensures.to in
    let some = member_found s t h _ _ there x c.in_ok-place.field-0 (Some p) (c.in_ok-place.ensures.some ∙ sym (member_qualified (tags t) to.qualifiers.0 (type_at t to.of) x)) c.in-Some-2.is in
    rw (c.in_ok-reached-in-Some-2.ensures.means, c.in_ok-v-in-Some-2.ensures.means, c.in_ok-v-in-Some-2.ensures.grows.extends.types_stay p.of l)
    (arrow_fine s c.args.line a x (member_seen (types t) p) (ap is_pointer (sym c.value_type.ensures.is) ∙ c.in-Some.ensures.pointer) some
    (small_in s t h w c.args.a c.requires.within) (small_at s t h w p.of l) (shallow_at t w p.of l) c.in_ok-v-in-Some-2.ensures.shallow)

pub returns-in_ok-reached-in-Some-2-clause-grows : goal.returns-in_ok-reached-in-Some-2-clause-grows
returns-in_ok-reached-in-Some-2-clause-grows c = grows_on c.args.types.now c.into_value.new.types c.reached.new.types c.in_ok-v-in-Some-2.ensures.grows c.in_ok-reached-in-Some-2.ensures.grows

pub returns-in-None-clause-err : goal.returns-in-None-clause-err
returns-in-None-clause-err c = λ s h.
    let t = c.args.types.now in
    let to = c.in-Some.to in
    let x = c.args.name.now in
    let there = ap target (sym c.value_type.ensures.is) ∙ c.in-Some.ensures.to in
    arrow_broken s c.args.line (seen (type_at t) c.args.a) x (ap is_pointer (sym c.value_type.ensures.is) ∙ c.in-Some.ensures.pointer)
    (member_found s t h _ _ there x c.in_ok-place.field-0 None (c.in_ok-place.ensures.some ∙ sym (member_qualified (tags t) to.qualifiers.0 (type_at t to.of) x)) c.in-None.is)
