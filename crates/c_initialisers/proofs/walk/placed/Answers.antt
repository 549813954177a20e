use Rattle.std.proofs.Common.{◌≡◌, None, Some, List, [], ◌∷◌, refl, sym, ap, ◌∙◌, subst}
use Rattle.c_types.specs.Layout.{Tag}
use Rattle.c_types.specs.Table.{tags, type_at}
use Rattle.c_meaning.specs.CoreTrees.{seen}
use Rattle.c_meaning.specs.Initialising.{Value, inner_node}
use Rattle.c_meaning.specs.NodeConstraints.{passed_by}
use Rattle.c_meaning.specs.State.{State}
use Rattle.c_meaning.specs.Typing.{Fine}
use Rattle.c_meaning.specs.Values.{value_type}
use Rattle.c_check_expr.specs.AtNode.{Tells}
use Rattle.c_check_expr.specs.Completed.{IsPassed}
use Rattle.c_initialisers.specs.Listed.{value_in}
use Rattle.c_initialisers.specs.Storing.{filling_in}
use Rattle.c_initialisers.specs.Waiting.{place_in}
use Rattle.c_initialisers.proofs.Handed.{handed_on}
use Rattle.c_initialisers.proofs.NodeFaults.{node_breaks, node_fine, node_told}
use Rattle.c_initialisers.proofs.WaitsStay.{entries_later, waiting_stays}
use Rattle.c_initialisers.proofs.PlacedValues.{standing_first, stored_same}
use Rattle.c_initialisers.proofs.walk.placed.Goals as goal

pub returns-in-Some-clause-err : goal.returns-in-Some-clause-err
returns-in-Some-clause-err c s t =
    let z = c.standing.ensures in
    let static = c.args.stands.1.is_static in
    let at = place_in c.args.types.now c.args.at in
    let v = seen (type_at c.args.types.now) c.args.c in
    node_breaks s c.args.stands.0 (inner_node static (Value (Some at) v)) _ c.in-Some.number (standing_first c.standing.result static (Value (Some at) v) s (Some c.in-Some.number) z.storage z.barred z.unfit (c.in-Some.ensures s [] t))

pub returns-in_err-store-clause-err : goal.returns-in_err-store-clause-err
returns-in_err-store-clause-err c =
    let z = c.standing.ensures in
    let static = c.args.stands.1.is_static in
    let at = place_in c.args.types.now c.args.at in
    let v = seen (type_at c.args.types.now) c.args.c in
    let others = filling_in c.args.types.now c.args.others in
    let f = c.in_err-store.field-0.0 in
    handed_on c.from_residual.result f (λ e. (s : State) → s.tags ≡ tags c.args.types.now → Tells e (value_in s static c.args.stands.0 at v others)) c.from_residual.ensures.1
    (λ s t. node_told s c.args.stands.0 (inner_node static (Value (Some at) v)) _ f (standing_first c.standing.result static (Value (Some at) v) s None z.storage z.barred z.unfit (c.in_default.ensures s [] t))
    (subst (λ (ts : List Tag). IsPassed f c.args.stands.0 (passed_by ts (value_type v ∷ []))) (sym t) c.in_err-store.ensures.limit))

pub returns-clause-ok : goal.returns-clause-ok
returns-clause-ok c s t =
    let z = c.standing.ensures in
    let k = c.in_ok-store.ensures in
    let static = c.args.stands.1.is_static in
    let at = place_in c.args.types.now c.args.at in
    let v = seen (type_at c.args.types.now) c.args.c in
    let others = filling_in c.args.types.now c.args.others in
    node_fine s c.args.stands.0 (inner_node static (Value (Some at) v)) _ (standing_first c.standing.result static (Value (Some at) v) s None z.storage z.barred z.unfit (c.in_default.ensures s [] t))
    (subst (λ (ts : List Tag). passed_by ts (value_type v ∷ []) ≡ None) (sym t) k.passes)
    ∙ ap (Fine s) (stored_same _ _ _ _ _ _ (sym k.stored) (sym (waiting_stays c.args.types.now c.store.new.types k.grows.extends c.members_are_complete.ensures c.args.others.waits.items c.requires.entries)) refl)

pub returns-clause-within : goal.returns-clause-within
returns-clause-within c = record { places = c.in_ok-store.ensures.within }

pub returns-clause-entries : goal.returns-clause-entries
returns-clause-entries c = entries_later c.args.types.now c.store.new.types c.in_ok-store.ensures.grows.extends c.members_are_complete.ensures c.args.others.waits.items c.requires.entries
