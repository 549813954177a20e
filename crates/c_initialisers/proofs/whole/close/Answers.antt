use Rattle.std.proofs.Common.{◌≡◌, ℕ, None, sym, ap, ◌∙◌, subst}
use Rattle.c_types.specs.Table.{tags, type_at}
use Rattle.c_meaning.specs.Filling.{sized}
use Rattle.c_meaning.specs.Initialising.{completed_types}
use Rattle.c_meaning.specs.NodeConstraints.{passed_by}
use Rattle.c_meaning.specs.State.{State}
use Rattle.c_meaning.specs.Typing.{Fine}
use Rattle.c_check_expr.specs.AtNode.{Tells}
use Rattle.c_check_expr.specs.Completed.{IsPassed}
use Rattle.c_initialisers.specs.StoresStay.{stores_later, stores_stay}
use Rattle.c_initialisers.specs.Storing.{filling_in}
use Rattle.c_initialisers.specs.Wholes.{object_of, whole_list}
use Rattle.c_initialisers.proofs.Handed.{handed_on}
use Rattle.c_initialisers.proofs.WholeNodes.{filled_same, list_breaks, list_fine, list_told, node_types}
use Rattle.c_initialisers.proofs.whole.close.Goals as goal

pub returns-in-Some-clause-err : goal.returns-in-Some-clause-err
returns-in-Some-clause-err c = λ t e.
    let a = c.args.types.now in
    let inner = filling_in a c.args.inner in
    list_breaks a c.args.of c.args.standing c.args.line inner t e c.in-Some.number (c.in-Some.ensures t (node_types a c.args.of c.args.standing c.args.line inner t e))

pub returns-in_err-sized-clause-err : goal.returns-in_err-sized-clause-err
returns-in_err-sized-clause-err c =
    let a = c.args.types.now in
    let inner = filling_in a c.args.inner in
    let f = c.in_err-sized.field-0.0 in
    let w = type_at a c.args.of in
    handed_on c.from_residual.result f (λ x. (t : State) → t.tags ≡ tags a → Tells x (whole_list t c.args.line (object_of a c.args.of c.args.standing) c.args.standing.is_unfit inner)) c.from_residual.ensures.1
    (λ t e. list_told a c.args.of c.args.standing c.args.line inner t e (c.in_default.ensures t (node_types a c.args.of c.args.standing c.args.line inner t e)) f (subst (λ (n : ℕ). IsPassed f c.args.line (passed_by (tags a) (completed_types w (sized w n)))) c.stored_elements-count.ensures c.in_err-sized.ensures.limit))

pub returns-clause-ok : goal.returns-clause-ok
returns-clause-ok c = λ t e.
    let a = c.args.types.now in
    let b = c.sized_type.new.types in
    let inner = filling_in a c.args.inner in
    let k = c.in_ok-sized.ensures in
    let w = type_at a c.args.of in
    list_fine a c.args.of c.args.standing c.args.line inner t e (c.in_default.ensures t (node_types a c.args.of c.args.standing c.args.line inner t e)) (subst (λ (n : ℕ). passed_by (tags a) (completed_types w (sized w n)) ≡ None) c.stored_elements-count.ensures k.passes)
    ∙ ap (Fine t) (filled_same _ _ _ _ (ap (sized w) (sym c.stored_elements-count.ensures) ∙ sym k.means) (sym (c.in_ok-finish.ensures.same b ∙ stores_stay a b k.grows.extends c.args.inner.places.items c.requires.inner.places)))

pub returns-clause-within : goal.returns-clause-within
returns-clause-within c =
    let k = c.in_ok-sized.ensures in
    record { of = k.within; places = c.in_ok-finish.ensures.within _ (stores_later c.args.types.now c.sized_type.new.types k.grows.extends c.args.inner.places.items c.requires.inner.places) }
