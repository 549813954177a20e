use Rattle.std.proofs.Common.{◌∙◌, sym, ap}
use Rattle.std.specs.Prelude.{Some, None}
use Rattle.c_types.specs.Table.{member_seen, type_at, types}
use Rattle.c_meaning.specs.CoreTrees.{seen, type_of}
use Rattle.c_check_expr.proofs.MemberNodes.{dot_broken, dot_fine, member_found, place_within}
use Rattle.c_values.specs.Stays.{type_seen}
use Rattle.c_check_expr.proofs.TableLimits.{shallow_at, small_at}
use Rattle.c_check_expr.proofs.member_access.member_of_place.Goals as goal

pub returns-in_ok-selected-in-Some-clause-ok : goal.returns-in_ok-selected-in-Some-clause-ok
returns-in_ok-selected-in-Some-clause-ok c = λ s h.
    let t = c.args.types.now in
    let p = c.in-Some.place in
    let w = c.types_are_within_limits.ensures in
    let a = seen (type_at t) c.args.a in
    let l = place_within _ c.in_ok-place.field-0 p c.in_ok-place.ensures.within c.in-Some.is in
    let same = type_seen (type_at t) c.args.a ∙ ap (type_at t) (ap type_of (sym c.a.view_is)) in
    rw (c.in_ok-selected-in-Some.ensures.means)
    (dot_fine s c.args.line a c.args.name.now (member_seen (types t) p)
    (member_found s t h _ _ same c.args.name.now c.in_ok-place.field-0 (Some p) c.in_ok-place.ensures.some c.in-Some.is)
    (small_at s t h w p.of l) (shallow_at t w p.of l))

pub returns-in-None-clause-err : goal.returns-in-None-clause-err
returns-in-None-clause-err c = λ s h.
    let t = c.args.types.now in
    let same = type_seen (type_at t) c.args.a ∙ ap (type_at t) (ap type_of (sym c.a.view_is)) in
    dot_broken s c.args.line (seen (type_at t) c.args.a) c.args.name.now
    (member_found s t h _ _ same c.args.name.now c.in_ok-place.field-0 None c.in_ok-place.ensures.some c.in-None.is)
