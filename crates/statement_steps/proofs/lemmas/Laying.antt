-- A slot below the others of a frame.
use Rattle.std.specs.Prelude.{◌≡◌, ℕ, suc, ◌+◌, ◌-◌, ◌*◌, ◌/◌, ℤ, pos, ◌+ℤ◌, ◌-ℤ◌, ◌≤ℤ◌, List, [], ◌∷◌, ◌++◌}
use Rattle.std.proofs.Common.{refl, sym, ◌∙◌, subst, arith}
use Rattle.std.proofs.lemmas.Int.{ints}
use Rattle.op_forest.specs.declared.frame.Slot.{Slot}
use Rattle.op_forest.specs.Frames.{IsFrame, lowest}
use Rattle.dag_forest.proofs.lemmas.Frames.{IsFour, lowest_le, lowest_four, frame_with}
use Rattle.c_types.specs.CType.{CType}
use Rattle.c_types.specs.Layout.{Tag}
use Rattle.c_runs.specs.Places.{size_of}
use Rattle.lowered_statements.specs.Layouts.{Layout, rounded, slot_under, in_slot, is_narrow, parameter_by, with_parameters, with_locals}

four_under : (low : ℤ) (m : ℕ) → IsFour low → IsFour (low -ℤ pos (4 * m))
four_under low m four = let e = four.1 in (four.0 + m, omega (arith, ints, e))

ends_at_low : (low : ℤ) (m : ℕ) → (low -ℤ pos m) +ℤ pos m ≡ low
ends_at_low low m = omega (arith, ints)

pub slot_frame : (size : ℕ) (slots : List Slot) → IsFrame slots → IsFrame (slots ++ slot_under size slots ∷ [])
slot_frame size slots frame =
    let low = lowest_le slots (pos 0) in
    let four = lowest_four slots (pos 0) (0, refl) frame.four in
    let is = ends_at_low (lowest slots) (rounded size) in
    frame_with slots (slot_under size slots) frame
    (four_under (lowest slots) ((size - 1) / 4 + 1) four)
    (subst (λ (z : ℤ). z ≤ℤ pos 0) (sym is) low.0)
    (λ i s e. subst (λ (z : ℤ). z ≤ℤ s.offset) (sym is) (low.1 i s e))

-- ---- locals one behind the other

pub narrow_more : (tags : List Tag) (word next : ℕ) (t : CType) (ts : List CType) (all now new : Layout) → all ≡ with_parameters tags word (t ∷ ts) now → new ≡ parameter_by (is_narrow tags t) word now → next ≡ suc word → all ≡ with_parameters tags next ts new
narrow_more tags word next t ts all now new h n e = h ∙ (λ i. with_parameters tags (sym e i) ts (sym n i))

pub local_more : (tags : List Tag) (t : CType) (ts : List CType) (all now new : Layout) → all ≡ with_locals tags (t ∷ ts) now → new ≡ in_slot (size_of tags t) now → all ≡ with_locals tags ts new
local_more tags t ts all now new h n = h ∙ (λ i. with_locals tags ts (sym n i))
