use Rattle.std.proofs.Common.{rules, ◌≡◌, ℕ, List, [], ◌∷◌, ◌++◌, length, sym, ap, ◌∙◌, subst, arith}
use Rattle.std.specs.Vec.Iter.{into_iter_items}
use Rattle.c_types.specs.Table.{AreBelow, type_at, types, types_in}
use Rattle.c_meaning.specs.CoreTrees.{AreIn, CoreOf, all_seen, cores_of}
use Rattle.c_meaning.specs.Values.{all_passed}
use Rattle.c_values.proofs.lemmas.ManyValues.{before, behind_below, passed_end, pushed_in, turn_left, turn_passed}
use Rattle.c_values.proofs.passing.passed.Goals as goal

pub loop-v-preserved : goal.loop-v-preserved
loop-v-preserved c =
    let t = c.args.types.now in
    let k = type_at t in
    let n = length t.forms in
    let i = c.loop-v.invariant in
    let kids = c.loop-v.kids in
    let x = c.in_ok-argument.argument in
    let left = c.loop-v.left.now in
    let rest = into_iter_items c.next.new.self in
    let items = into_iter_items c.loop-v.v-iterator in
    let s : items ≡ c.in-Some.v ∷ rest = c.in-Some.ensures.steps.0 in
    let p = c.in_ok-push-2.ensures.ok in
    let b = c.behind_first-left.ensures in
    record {
      means = ap (λ (l : List (CoreOf ℕ)). before (all_seen k (cores_of l)) (all_passed (types_in (types t) c.behind_first-left.result.now) (all_seen k (cores_of rest)))) p
          ∙ ap (λ l. before (all_seen k (cores_of (kids ++ x ∷ []))) (all_passed (types_in (types t) l) (all_seen k (cores_of rest)))) b
          ∙ turn_passed t kids x c.in-Some.v left rest items _ s c.in_ok-argument.ensures.means i.means;
      within = subst (λ (l : List (CoreOf ℕ)). AreIn n (cores_of l)) (sym p) (pushed_in n kids x i.within c.in_ok-argument.ensures.within);
      behind = turn_left n n c.in-Some.v rest items (omega arith) s i.behind;
      parameters = subst (AreBelow n) (sym b) (behind_below n left i.parameters);
    }

pub returns-clause-means : goal.returns-clause-means
returns-clause-means c =
    let none : length (into_iter_items c.loop-v.v-iterator) ≡ 0 = search rules in
    passed_end c.args.types.now c.loop-v.kids c.loop-v.left.now (into_iter_items c.loop-v.v-iterator) _ none c.loop-v.invariant.means
