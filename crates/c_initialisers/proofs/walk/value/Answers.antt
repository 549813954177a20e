use Rattle.std.proofs.Common.{◌≡◌, List, None, Option, refl, sym, ap, ◌∙◌, subst}
use Rattle.std.specs.Prelude.{not, ◌||◌}
use Rattle.c_types.specs.Layout.{Tag}
use Rattle.c_types.specs.Table.{tags, type_at}
use Rattle.c_meaning.specs.CoreTrees.{seen}
use Rattle.c_meaning.specs.Filling.{Waiting, is_nowhere, left_behind, taken}
use Rattle.c_meaning.specs.Typing.{Fine}
use Rattle.c_initialisers.specs.declared.place.Place.{Place}
use Rattle.c_initialisers.specs.declared.waits.Waits.{Waits}
use Rattle.c_initialisers.specs.Storing.{filling_in}
use Rattle.c_initialisers.specs.Waiting.{found_in, waiting_in}
use Rattle.c_initialisers.proofs.PlacedValues.{stored_same, value_left}
use Rattle.c_initialisers.proofs.walk.value.Goals as goal

pub returns-in-None-clause-ok : goal.returns-in-None-clause-ok
returns-in-None-clause-ok c s t =
    let types = c.args.types.now in
    let before = filling_in types c.args.before in
    let v = seen (type_at types) c.args.c in
    let new = c.take.new.waits.items in
    let k = c.in_ok-at.ensures in
    let none : taken (tags types) v before.left ≡ None = k.found ∙ ap (λ (p : Option Place). found_in types new p) c.in-None.is in
    let left : waiting_in types new ≡ before.left = k.left ∙ ap (λ (p : Option Place). left_behind (found_in types new p) before.left) c.in-None.is in
    let excess : c.with_excess-excess.result ≡ (before.excess || not (is_nowhere before.left)) =
    c.with_excess-excess.ensures ∙ ap (λ (ws : List Waits). before.excess || not (is_nowhere (waiting_in types ws))) c.deref.ensures.value ∙ ap (λ (ws : List Waiting). before.excess || not (is_nowhere ws)) left in
    value_left s c.args.listing.is_static c.args.line before v (subst (λ (ts : List Tag). taken ts v before.left ≡ None) (sym t) none) ∙ ap (Fine s) (stored_same _ _ _ _ _ _ refl (sym left) (sym excess))
