use Rattle.std.proofs.Common.{length, map, sym, ap, ◌∙◌}
use Rattle.std.specs.Prelude.{◌==◌}
use Rattle.c_meaning.specs.Filling.{elements_begun}
use Rattle.c_meaning.specs.Initialising.{elements_stored}
use Rattle.c_initialisers.specs.Storing.{stored_in}
use Rattle.c_initialisers.specs.Waiting.{waiting_in}
use Rattle.c_initialisers.proofs.WaitingLists.{begun_counts, none_counts}
use Rattle.c_initialisers.proofs.sizes.stored_elements.Goals as goal

pub returns-then-is_empty : goal.returns-then-is_empty
returns-then-is_empty c =
    let t = c.args.types.now in
    let f = c.args.filling.now in
    c.first_elements.ensures ∙ ap (λ l. elements_stored (map (stored_in t) l)) c.as_slice.ensures.value
    ∙ sym (none_counts t f.waits.items (map (stored_in t) f.places.items) (c.if-is_empty.ensures ∙ ap (λ l. length l == 0) c.as_slice-waits.ensures.value))

pub returns-else-is_empty : goal.returns-else-is_empty
returns-else-is_empty c =
    let t = c.args.types.now in
    let f = c.args.filling.now in
    let s = c.as_slice-waits.ensures in
    c.elements_begun.ensures t ∙ ap (λ l. elements_begun (waiting_in t l)) s.value
    ∙ sym (begun_counts t f.waits.items (map (stored_in t) f.places.items) c.requires.entries (c.if-is_empty.ensures ∙ ap (λ l. length l == 0) s.value))
