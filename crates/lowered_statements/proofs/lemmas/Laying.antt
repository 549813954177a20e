-- The slots of a function's locals are a frame.
use Rattle.std.specs.Prelude.{◌≡◌, ℕ, suc, ◌+◌, ◌*◌, ◌/◌, ◌-◌, ℤ, pos, ◌+ℤ◌, ◌-ℤ◌, ◌≤ℤ◌, Bool, true, false, List, [], ◌∷◌, ◌++◌, take, drop}
use Rattle.std.proofs.Common.{refl, sym, subst, arith, append-nil}
use Rattle.std.proofs.lemmas.Int.{ints}
use Rattle.op_forest.specs.declared.frame.Slot.{Slot}
use Rattle.op_forest.specs.Frames.{IsFrame, lowest}
use Rattle.c_types.specs.CType.{CType}
use Rattle.c_types.specs.Layout.{Tag}
use Rattle.c_meaning.specs.Units.{FunctionTree}
use Rattle.c_runs.specs.Places.{size_of}
use Rattle.dag_forest.proofs.lemmas.Frames.{IsFour, lowest_le, lowest_four, frame_with}
use Rattle.lowered_statements.specs.Layouts.{Layout, rounded, slot_under, in_slot, is_narrow, parameter_by, with_parameters, with_locals, first_word, layout}

-- ---- a slot below the others

four_under : (low : ℤ) (m : ℕ) → IsFour low → IsFour (low -ℤ pos (4 * m))
four_under low m four = let e = four.1 in (four.0 + m, omega (arith, ints, e))

ends_at_low : (low : ℤ) (m : ℕ) → (low -ℤ pos m) +ℤ pos m ≡ low
ends_at_low low m = omega (arith, ints)

slot_frame : (size : ℕ) (slots : List Slot) → IsFrame slots → IsFrame (slots ++ slot_under size slots ∷ [])
slot_frame size slots frame =
    let low = lowest_le slots (pos 0) in
    let four = lowest_four slots (pos 0) (0, refl) frame.four in
    let is = ends_at_low (lowest slots) (rounded size) in
    frame_with slots (slot_under size slots) frame
    (four_under (lowest slots) ((size - 1) / 4 + 1) four)
    (subst (λ (z : ℤ). z ≤ℤ pos 0) (sym is) low.0)
    (λ i s e. subst (λ (z : ℤ). z ≤ℤ s.offset) (sym is) (low.1 i s e))

-- ---- layouts

no_slots : IsFrame []
no_slots = record {
  four = λ i s e. absurd (let never : ⊥ = cc in never);
  ends = λ i s e. absurd (let never : ⊥ = cc in never);
  apart = λ i j s t e f. absurd (let never : ⊥ = cc in never);
}

abbrev HasFrame : Layout → Type 0
HasFrame a = IsFrame a.slots

parameter_frame : (narrow : Bool) (word : ℕ) (a : Layout) → HasFrame a → HasFrame (parameter_by narrow word a)
parameter_frame true word a h = slot_frame 4 a.slots h
parameter_frame false word a h = subst IsFrame (sym (append-nil a.slots)) h

parameters_frame : (tags : List Tag) (word : ℕ) (ts : List CType) (a : Layout) → HasFrame a → HasFrame (with_parameters tags word ts a)
parameters_frame tags word [] a h = h
parameters_frame tags word (t ∷ ts) a h = parameters_frame tags (suc word) ts (parameter_by (is_narrow tags t) word a) (parameter_frame (is_narrow tags t) word a h)

locals_frame : (tags : List Tag) (ts : List CType) (a : Layout) → HasFrame a → HasFrame (with_locals tags ts a)
locals_frame tags [] a h = h
locals_frame tags (t ∷ ts) a h = locals_frame tags ts (in_slot (size_of tags t) a) (slot_frame (size_of tags t) a.slots h)

pub layout_is_frame : (tags : List Tag) (f : FunctionTree) → IsFrame (layout tags f).slots
layout_is_frame tags f =
    let none : Layout = record { places = []; slots = [] } in
    let a = with_parameters tags (first_word f) (take f.parameters f.locals) none in
    locals_frame tags (drop f.parameters f.locals) a (parameters_frame tags (first_word f) (take f.parameters f.locals) none no_slots)
