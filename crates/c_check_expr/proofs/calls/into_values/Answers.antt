use Rattle.std.proofs.Common.{rules, ◌≡◌, ◌∷◌, length, sym, ap, ◌∙◌, subst}
use Rattle.std.specs.Vec.Iter.{into_iter_items}
use Rattle.c_types.specs.Table.{type_at}
use Rattle.c_meaning.specs.CoreTrees.{AreIn, all_seen, cores_of}
use Rattle.c_meaning.specs.Values.{values}
use Rattle.c_values.proofs.lemmas.ManyValues.{before, pushed_in, turn_deep, turn_end, turn_left, turn_means}
use Rattle.c_values.specs.Stays.{all_in_later, grows_on, longer}
use Rattle.c_check_expr.proofs.calls.into_values.Goals as goal

pub loop-part-preserved : goal.loop-part-preserved
loop-part-preserved c =
    let t = c.loop-part.types in
    let u = c.into_value.new.types in
    let g = c.in_ok-v.ensures.grows in
    let i = c.loop-part.invariant in
    let vs = c.loop-part.vs in
    let v = c.in_ok-v.v in
    let rest = into_iter_items c.next.new.self in
    let items = into_iter_items c.loop-part.part-iterator in
    let s : items ≡ c.in-Some.part ∷ rest = c.in-Some.ensures.steps.0 in
    let p = c.in_ok-push.ensures.ok in
    record {
      means = ap (λ l. before (all_seen (type_at u) (cores_of l)) (values (all_seen (type_at u) (cores_of rest)))) p ∙ turn_means t u vs v c.in-Some.part rest items _ g.extends s i.within i.left c.in_ok-v.ensures.means i.means;
      within = subst (λ l. AreIn (length u.forms) (cores_of l)) (sym p) (pushed_in (length u.forms) vs v (all_in_later t u g.extends (cores_of vs) i.within) c.in_ok-v.ensures.within);
      left = turn_left (length t.forms) (length u.forms) c.in-Some.part rest items (longer t u g.extends) s i.left;
      deep = turn_deep t u c.in-Some.part rest items _ g.extends s i.left c.in_ok-v.ensures.shallow i.deep;
      grows = grows_on _ t u i.grows g;
    }

pub returns-in_err-push-clause-grows : goal.returns-in_err-push-clause-grows
returns-in_err-push-clause-grows c = grows_on _ _ _ c.loop-part.invariant.grows c.in_ok-v.ensures.grows

pub returns-clause-means : goal.returns-clause-means
returns-clause-means c =
    let none : length (into_iter_items c.loop-part.part-iterator) ≡ 0 = search rules in
    turn_end c.loop-part.types c.loop-part.vs (into_iter_items c.loop-part.part-iterator) _ none c.loop-part.invariant.means
