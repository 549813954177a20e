use Rattle.std.proofs.Common.{rules, ◌+◌, ◌++◌, ◌∷◌, [], List, ℕ, length, take, take_at, sym, subst, ◌∙◌, arith}
use Rattle.c_types.specs.Table.{type_at}
use Rattle.c_meaning.specs.Copies.{own_copies}
use Rattle.c_meaning.specs.CoreTrees.{AreIn, Core, CoreOf, IsIn, all_seen, cores_of, seen}
use Rattle.c_wholes.specs.Placing.{ArePlaced, Grows, IsPlaced}
use Rattle.c_wholes.proofs.Loops.{next}
use Rattle.c_wholes.proofs.PlacedParts.{as_many, one_more_placed, placed_from}
use Rattle.c_wholes.proofs.copies.+copies.Goals as goal

pub place_expr-returns : goal.place_expr-returns
place_expr-returns t c =
    let types = c.args.types.now in
    let f = type_at types in
    let i = c.c.inside in
    let a = c.args.locals.now in
    let b = c.place_kind.new.locals in
    let d = c.place_exprs.new.locals in
    let back = c.into_vec-kids.ensures ∙ c.replace.ensures.value in
    let within : IsIn (length types.forms) (Core i.what i.of i.line (cores_of i.kids)) = subst (IsIn (length types.forms)) (sym c.c.view_is) c.requires.within in
    let g = subst (λ (ks : List (CoreOf ℕ)). Grows types (own_copies i.what (f i.of) (all_seen f (cores_of ks))) a b) (c.deref.ensures.value ∙ back) c.in_ok-place_kind.ensures.copies in
    let p = subst (λ (ks : List (CoreOf ℕ)). ArePlaced types b d (all_seen f (cores_of ks)) c.place_exprs.new.list) (c.deref_mut.ensures.value ∙ back) c.in_ok-place_exprs.ensures in
    let n = as_many types b d c.deref_mut.result.now c.place_exprs.new.list c.in_ok-place_exprs.ensures ∙ c.deref_mut.ensures.len in
    let kids = c.from_vec.ensures ∙ take_at c.place_exprs.new.list _ _ n in
    subst (λ x. IsPlaced types a d (seen f x) (Core c.place_kind.new.what i.of i.line (cores_of c.from_vec.result))) c.c.view_is
    (subst (λ ks. IsPlaced types a d (seen f (Core i.what i.of i.line (cores_of i.kids))) (Core c.place_kind.new.what i.of i.line (cores_of ks))) (sym kids)
    (placed_from types a b d i.what c.place_kind.new.what i.of i.line i.kids c.place_exprs.new.list within.0 c.in_ok-place_kind.ensures.kind g p))

pub place_exprs-loop-i-preserved : goal.place_exprs-loop-i-preserved
place_exprs-loop-i-preserved t c =
    let types = c.args.types.now in
    let f = type_at types in
    let l = c.loop-i in
    let v = l.invariant in
    let xs = c.args.list.now in
    let x = c.index-list-i.result in
    let y = c.place_expr.new.c in
    let a = c.args.locals.now in
    let d = c.place_expr.new.locals in
    let n = next xs l.list l.i x y (omega arith) v.lengths v.left c.index-list-i.is in
    let p = subst (λ z. IsPlaced types l.locals d (seen f z) y) (sym c.index-list-i.is) c.in_ok-place_expr.ensures in
    let more = one_more_placed types a l.locals d (take l.i xs) (take l.i l.list) x y v.placed p in
    record {
      placed =
          subst (λ zs. ArePlaced types a d (all_seen f (cores_of (take (l.i + 1) xs))) zs) (sym n.new)
          (subst (λ zs. ArePlaced types a d (all_seen f (cores_of zs)) (take l.i l.list ++ y ∷ [])) (sym n.old) more);
      left = n.left;
      lengths = n.lengths;
      within = subst (λ zs. AreIn (length types.forms) (cores_of zs)) (sym n.left) ((subst (λ zs. AreIn (length types.forms) (cores_of zs)) (v.left ∙ n.behind) v.within).1);
      unvisited = search rules;
    }
