use Rattle.std.proofs.Common.{◌≡◌, ℕ, ◌<◌, List, [], ◌∷◌, ◌++◌, None, length, map, sym, ap, ◌∙◌, subst}
use Rattle.c_types.specs.CType.{CType}
use Rattle.c_types.specs.Layout.{Tag}
use Rattle.c_types.specs.Table.{tags, type_at}
use Rattle.c_meaning.specs.CoreTrees.{seen}
use Rattle.c_meaning.specs.Filling.{filled_by, sized}
use Rattle.c_meaning.specs.Initialising.{completed_types}
use Rattle.c_meaning.specs.NodeConstraints.{passed_by}
use Rattle.c_meaning.specs.State.{State}
use Rattle.c_meaning.specs.StmtTrees.{FilledOf}
use Rattle.c_meaning.specs.Typing.{Fine}
use Rattle.c_values.specs.Stays.{grows_on, in_later}
use Rattle.c_check_expr.specs.AtNode.{Tells}
use Rattle.c_check_expr.specs.Completed.{IsPassed}
use Rattle.c_check_expr.specs.Kept.{below_later}
use Rattle.c_initialisers.specs.declared.stored.Stored.{Stored}
use Rattle.c_initialisers.specs.Storing.{stored_in}
use Rattle.c_initialisers.specs.Waiting.{place_in}
use Rattle.c_initialisers.specs.Wholes.{object_of, whole_value}
use Rattle.c_initialisers.proofs.Handed.{handed_on}
use Rattle.c_initialisers.proofs.ValueLimits.{value_small}
use Rattle.c_initialisers.proofs.WholeNodes.{completed, filled_same, placed_breaks, placed_fine, size_told, stored_whole, unplaced_breaks, value_later, value_told}
use Rattle.c_initialisers.proofs.whole.filled_by.Goals as goal

pub returns-then-standing-clause-err : goal.returns-then-standing-clause-err
returns-then-standing-clause-err c = λ t e.
    let a = c.args.types.now in
    let v = seen (type_at a) c.args.c in
    unplaced_breaks a c.args.of c.args.standing c.args.line v t e c.unplaced_broken.result c.if-standing.true (c.unplaced_broken.ensures t v (completed a c.args.of c.args.standing c.args.line v t e))

pub value_broken-requires-clause-at : goal.value_broken-requires-clause-at
value_broken-requires-clause-at c = subst (λ (n : ℕ). n < length c.args.types.now.forms) (sym c.whole_place-at.ensures.of) c.requires.of

pub returns-in-Some-clause-err : goal.returns-in-Some-clause-err
returns-in-Some-clause-err c = λ t e.
    let a = c.args.types.now in
    let v = seen (type_at a) c.args.c in
    placed_breaks a c.args.of c.args.standing c.args.line v t e c.if-standing.false (place_in a c.whole_place-at.result) (c.whole_place-at.ensures.means a) c.in-Some.number (c.in-Some.ensures t (completed a c.args.of c.args.standing c.args.line v t e) e)

pub returns-in_err-sized-clause-err : goal.returns-in_err-sized-clause-err
returns-in_err-sized-clause-err c =
    let a = c.args.types.now in
    let v = seen (type_at a) c.args.c in
    let w = type_at a c.args.of in
    let f = c.in_err-sized.field-0.0 in
    handed_on c.from_residual-in_err-sized.result f (λ x. (t : State) → t.tags ≡ tags a → Tells x (whole_value t c.args.line (object_of a c.args.of c.args.standing) c.args.standing.is_unfit v)) c.from_residual-in_err-sized.ensures.1
    (λ t e. size_told a c.args.of c.args.standing c.args.line v t e c.if-standing.false (place_in a c.whole_place-at.result) (c.whole_place-at.ensures.means a) (c.in_default.ensures t (completed a c.args.of c.args.standing c.args.line v t e) e) f
    (value_small a c.args.c c.types_are_within_limits.ensures c.requires.within).size (subst (λ (n : ℕ). IsPassed f c.args.line (passed_by (tags a) (completed_types w (sized w n)))) c.in_ok-count.ensures c.in_err-sized.ensures.limit))

pub store-requires-clause-at : goal.store-requires-clause-at
store-requires-clause-at c = subst (λ (n : ℕ). n < length c.sized_type.new.types.forms) (sym c.whole_place-at.ensures.of) (below_later c.args.types.now c.sized_type.new.types c.in_ok-sized.ensures.grows.extends c.args.of c.requires.of)

pub store-requires-clause-within : goal.store-requires-clause-within
store-requires-clause-within c = in_later c.args.types.now c.sized_type.new.types c.in_ok-sized.ensures.grows.extends c.args.c c.requires.within

pub returns-in_err-store-clause-err : goal.returns-in_err-store-clause-err
returns-in_err-store-clause-err c =
    let a = c.args.types.now in
    let b = c.sized_type.new.types in
    let v = seen (type_at a) c.args.c in
    let w = type_at a c.args.of in
    let f = c.in_err-store.field-0.0 in
    let k = c.in_ok-sized.ensures in
    handed_on c.from_residual-in_err-store.result f (λ x. (t : State) → t.tags ≡ tags a → Tells x (whole_value t c.args.line (object_of a c.args.of c.args.standing) c.args.standing.is_unfit v)) c.from_residual-in_err-store.ensures.1
    (λ t e. value_told a c.args.of c.args.standing c.args.line v t e c.if-standing.false (place_in a c.whole_place-at.result) (c.whole_place-at.ensures.means a) (c.in_default.ensures t (completed a c.args.of c.args.standing c.args.line v t e) e) f
    (subst (λ (n : ℕ). passed_by (tags a) (completed_types w (sized w n)) ≡ None) c.in_ok-count.ensures k.passes)
    (value_later a b c.args.c k.grows c.requires.within (λ (gs : List Tag) (u : CType). IsPassed f c.args.line (passed_by gs (u ∷ []))) c.in_err-store.ensures.limit))

pub returns-in_err-store-clause-grows : goal.returns-in_err-store-clause-grows
returns-in_err-store-clause-grows c = grows_on c.args.types.now c.sized_type.new.types c.store.new.types c.in_ok-sized.ensures.grows c.in_err-store.ensures.grows

pub returns-in_err-finish-clause-grows : goal.returns-in_err-finish-clause-grows
returns-in_err-finish-clause-grows c = grows_on c.args.types.now c.sized_type.new.types c.store.new.types c.in_ok-sized.ensures.grows c.in_ok-store.ensures.grows

pub returns-clause-ok : goal.returns-clause-ok
returns-clause-ok c = λ t e.
    let a = c.args.types.now in
    let b = c.sized_type.new.types in
    let d = c.store.new.types in
    let v = seen (type_at a) c.args.c in
    let w = type_at a c.args.of in
    let k = c.in_ok-sized.ensures in
    let q = c.in_ok-store.ensures in
    let at = c.whole_place-at.result in
    let size : sized w c.in_ok-count.count ≡ type_at d c.in_ok-sized.sized = sym k.means ∙ sym (q.grows.extends.types_stay c.in_ok-sized.sized k.within) in
    let kept : map (stored_in d) c.store.new.places.items ≡ filled_by (place_in b at) (seen (type_at b) c.args.c) ∷ [] =
    q.stored ∙ ap (λ (ps : List Stored). map (stored_in b) ps ++ filled_by (place_in b at) (seen (type_at b) c.args.c) ∷ []) c.new-places.ensures.items in
    placed_fine a c.args.of c.args.standing c.args.line v t e c.if-standing.false (place_in a at) (c.whole_place-at.ensures.means a) (c.in_default.ensures t (completed a c.args.of c.args.standing c.args.line v t e) e)
    (subst (λ (n : ℕ). passed_by (tags a) (completed_types w (sized w n)) ≡ None) c.in_ok-count.ensures k.passes)
    (value_later a b c.args.c k.grows c.requires.within (λ (gs : List Tag) (u : CType). passed_by gs (u ∷ []) ≡ None) q.passes)
    ∙ ap (Fine t) (filled_same _ _ _ _ (ap (sized w) (sym c.in_ok-count.ensures) ∙ size) (sym (c.in_ok-finish.ensures.same d ∙ kept ∙ ap (λ (x : FilledOf CType). x ∷ []) (stored_whole a b at c.args.of c.args.c k.grows c.requires.of c.requires.within c.whole_place-at.ensures.means))))

pub returns-clause-within : goal.returns-clause-within
returns-clause-within c = record { of = below_later c.sized_type.new.types c.store.new.types c.in_ok-store.ensures.grows.extends c.in_ok-sized.sized c.in_ok-sized.ensures.within; places = c.in_ok-finish.ensures.within _ c.in_ok-store.ensures.within }

pub returns-clause-grows : goal.returns-clause-grows
returns-clause-grows c = grows_on c.args.types.now c.sized_type.new.types c.store.new.types c.in_ok-sized.ensures.grows c.in_ok-store.ensures.grows
