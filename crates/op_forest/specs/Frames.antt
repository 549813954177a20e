-- What a frame keeps of its slots: each begins at a multiple of 4 and ends at the frame's top or below, and no two
-- share a byte. And where the lowest of them begins.
-- Source: Fraser and Hanson, A Retargetable C Compiler, chapter 13 (offsets of locals).
use Rattle.std.specs.Prelude.{◌≡◌, ℕ, ◌*◌, ℤ, pos, neg_ℤ, ◌+ℤ◌, ◌≤ℤ◌, int_le, Some, List, [], ◌∷◌, slice_get, ◌⊎◌, if◌then◌else◌}
use Rattle.op_forest.specs.declared.frame.Slot.{Slot}

-- the place behind a slot's last byte
abbrev pub end_of : Slot → ℤ
end_of s = s.offset +ℤ pos s.size

pub record IsFrame (slots : List Slot) : Type 0 where
  pub four : (i : ℕ) (s : Slot) → slice_get slots i ≡ Some s → (k : ℕ) × (s.offset ≡ neg_ℤ (pos (4 * k)))
  pub ends : (i : ℕ) (s : Slot) → slice_get slots i ≡ Some s → end_of s ≤ℤ pos 0
  pub apart : (i j : ℕ) (s t : Slot) → slice_get slots i ≡ Some s → slice_get slots j ≡ Some t → (i ≡ j) ⊎ (end_of s ≤ℤ t.offset) ⊎ (end_of t ≤ℤ s.offset)

abbrev pub lesser : ℤ → ℤ → ℤ
lesser a b = if int_le a b then a else b

-- the least of a place and of those where the slots begin
abbrev pub lowest_from : ℤ → List Slot → ℤ
lowest_from z [] = z
lowest_from z (s ∷ ss) = lowest_from (lesser z s.offset) ss

-- where the lowest of the slots begins, or the frame's top
abbrev pub lowest : List Slot → ℤ
lowest slots = lowest_from (pos 0) slots

-- what a frame keeps beside its slots
pub record IsFramed (slots : List Slot) (place : ℤ) : Type 0 where
  pub frame : IsFrame slots
  pub low : place ≡ lowest slots
