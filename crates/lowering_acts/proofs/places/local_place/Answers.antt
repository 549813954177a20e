use Rattle.std.specs.Prelude.{ℤ}
use Rattle.std.proofs.Common.{rules, w32, ap, sym, ◌∙◌}
use Rattle.std.proofs.lemmas.Int.{to_z-of_z}
use Rattle.c_rows_agree.specs.Places.{loaded_pointer}
use Rattle.c_rows_agree.specs.Typed.{Typed}
use Rattle.lowered_forms.specs.Places.{address_at, local_by}
use Rattle.lowering_acts.proofs.lemmas.Spotting.{places_if}
use Rattle.lowering_acts.proofs.places.local_place.Goals as goal

pub returns-then-is_passed_whole : goal.returns-then-is_passed_whole
returns-then-is_passed_whole c =
    let get = c.offset_of.ensures in
    let there = sym get ∙ c.in-Some.is in
    let whole = sym c.is_passed_whole.ensures ∙ c.if-is_passed_whole.true in
    let at = c.address_at-place.ensures ∙ ap (λ (z : ℤ). address_at z) (to_z-of_z w32 c.in-Some.offset (search rules)) in
    places_if c.loaded_pointer.result c.args.block.now c.loaded_pointer.new.self _ _ (ap (λ (p : Typed). loaded_pointer p) at ∙ sym (λ i. local_by (whole i) (there i))) c.loaded_pointer.ensures

pub returns-else-is_passed_whole : goal.returns-else-is_passed_whole
returns-else-is_passed_whole c =
    let there = sym c.offset_of.ensures ∙ c.in-Some.is in
    let whole = sym c.is_passed_whole.ensures ∙ c.if-is_passed_whole.false in
    let at = c.address_at-place.ensures ∙ ap (λ (z : ℤ). address_at z) (to_z-of_z w32 c.in-Some.offset (search rules)) in
    places_if c.placed.result c.args.block.now c.placed.new.self _ _ (at ∙ sym (λ i. local_by (whole i) (there i))) c.placed.ensures
