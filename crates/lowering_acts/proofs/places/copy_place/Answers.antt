use Rattle.std.specs.Prelude.{ℤ}
use Rattle.std.proofs.Common.{rules, w32, ap, sym, ◌∙◌}
use Rattle.std.proofs.lemmas.Int.{to_z-of_z}
use Rattle.lowered_forms.specs.Places.{address_at, local_by}
use Rattle.lowering_acts.proofs.places.copy_place.Goals as goal

pub returns-in-Some : goal.returns-in-Some
returns-in-Some c =
    let there = sym c.offset_of.ensures ∙ c.in-Some.is in
    let whole = sym c.is_passed_whole.ensures ∙ c.if-is_passed_whole.false in
    c.address_at.ensures ∙ ap (λ (z : ℤ). address_at z) (to_z-of_z w32 c.in-Some.offset (search rules)) ∙ sym (λ i. local_by (whole i) (there i))

pub returns-in-None : goal.returns-in-None
returns-in-None c =
    let there = sym c.offset_of.ensures ∙ c.in-None.is in
    let whole = sym c.is_passed_whole.ensures ∙ c.if-is_passed_whole.false in
    c.number.ensures ∙ sym (λ i. local_by (whole i) (there i))
