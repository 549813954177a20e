-- A frame's slots in the order of their places, so that the one that an offset lies in is found by halves. A slot that
-- lies in an earlier one doesn't end what that one reaches.
use Rattle.std.specs.Prelude.{◌≡◌, ◌≤◌, ◌↔◌, ℕ, ℤ, ◌≤ℤ◌, ◌<ℤ◌, int_le, if◌then◌else◌, Some, List, [], ◌∷◌, slice_get}
use Rattle.op_forest.specs.declared.frame.Slot.{Slot}
use Rattle.op_forest.specs.Frames.{end_of}
use Rattle.forests.specs.declared.slots.Reach.{Reach}
use Rattle.forests.specs.WellFormed.{LiesInOne}

-- the offset is from the start on, and below the end
abbrev pub IsReached : ℤ → Reach → Type 0
IsReached z r = (r.start ≤ℤ z) × (z <ℤ r.end)

abbrev pub greater : ℤ → ℤ → ℤ
greater a b = if int_le a b then b else a

-- each slot's start, with the furthest end of the slots up to it, where those before it end at most there
abbrev pub reaches_from : ℤ → List Slot → List Reach
reaches_from end [] = []
reaches_from end (s ∷ ss) = record { start = s.offset; end = greater end (end_of s) } ∷ reaches_from (greater end (end_of s)) ss

abbrev pub reaches : List Slot → List Reach
reaches [] = []
reaches (s ∷ ss) = reaches_from s.offset (s ∷ ss)

-- no start is below one before it
abbrev pub AreInOrder : List Slot → Type 0
AreInOrder slots = (i j : ℕ) (s t : Slot) → i ≤ j → slice_get slots i ≡ Some s → slice_get slots j ≡ Some t → s.offset ≤ℤ t.offset

-- an offset lies in a slot exactly where the table reaches it, and neither starts nor ends fall
pub record IsTable (slots : List Slot) (table : List Reach) : Type 0 where
  pub starts : (i j : ℕ) (a b : Reach) → i ≤ j → slice_get table i ≡ Some a → slice_get table j ≡ Some b → a.start ≤ℤ b.start
  pub ends : (i j : ℕ) (a b : Reach) → i ≤ j → slice_get table i ≡ Some a → slice_get table j ≡ Some b → a.end ≤ℤ b.end
  pub same : (z : ℤ) → LiesInOne slots z ↔ ((i : ℕ) × (r : Reach) × (slice_get table i ≡ Some r) × IsReached z r)
