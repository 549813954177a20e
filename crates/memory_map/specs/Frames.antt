-- Where the objects of a call and those of a unit lie: slots below a frame's top, at their offsets; parameter words one
-- behind the other; a unit's objects one behind the other, each from a multiple of 4 on.
-- Source: Fraser and Hanson, A Retargetable C Compiler, chapters 13 and 16 (frames, offsets of locals and parameters).
use Rattle.std.specs.Prelude.{◌≡◌, ◌≤◌, ◌<◌, ◌⊎◌, ℕ, zero, suc, ◌*◌, ◌+◌, ◌-◌, ◌/◌, ◌%◌, ◌^◌, List, [], ◌∷◌, ◌++◌, map, length, Option, Some, None, slice_get}
use Rattle.std.specs.Int.RustNames.{unsigned_abs}
use Rattle.lcc_base.specs.declared.order.Order.{Order}
use Rattle.objects.specs.Bytes.{number_bytes}
use Rattle.op_forest.specs.declared.frame.Slot.{Slot}
use Rattle.op_forest.specs.Frames.{IsFrame}
use Rattle.forests.specs.Words.{Word}
use Rattle.forests.specs.Objects.{Object}
use Rattle.forests.specs.Addresses.{Home}
use Rattle.memory_map.specs.Maps.{Map, IsWord}
use Rattle.memory_map.specs.Memory.{Stand}

-- the slots' offsets are counted from the top, and aren't above it
abbrev pub slot_places : ℕ → List Slot → List ℕ
slot_places top slots = map (λ s. top - unsigned_abs s.offset) slots

-- so many parameter words
abbrev pub word_places : ℕ → ℕ → List ℕ
word_places at zero = []
word_places at (suc n) = at ∷ word_places (at + 4) n

-- the objects of a call: its frame's slots, and its parameter words
abbrev pub own_places : ℕ → ℕ → List Slot → ℕ → List ℕ
own_places top words_at slots words = slot_places top slots ++ word_places words_at words

-- no slot begins further below the top
abbrev pub ReachDown : ℕ → List Slot → Type 0
ReachDown depth slots =
    (k : ℕ) (s : Slot) → slice_get slots k ≡ Some s → unsigned_abs s.offset ≤ depth

-- Where a frame has its slots and its parameter words: from so far below the top up to it, above the floor; and from an
-- address at the top or above on.
pub record IsHome (floor top words_at depth words : ℕ) (slots : List Slot) : Type 0 where
  pub frame : IsFrame slots
  pub deep : ReachDown depth slots
  pub some : 0 < floor
  pub above : floor + depth ≤ top
  pub top_four : top % 4 ≡ 0
  pub words_four : words_at % 4 ≡ 0
  pub below : top ≤ words_at
  pub small : words_at + 4 * words < 2 ^ 32

-- A body's own objects lie there by the map.
pub record IsHomed (map : Map) (home : Home) (top words_at : ℕ) : Type 0 where
  pub slots : (k : ℕ) (s : Slot) → slice_get home.slots k ≡ Some s
      → map.object (home.made + k) ≡ Some (top - unsigned_abs s.offset)
  pub words : (k : ℕ) → k < home.words
      → map.object (home.made + length home.slots + k) ≡ Some (words_at + 4 * k)

-- an address between the lowest slot and the top, or of a parameter word's byte
abbrev pub IsOwn : ℕ → ℕ → ℕ → ℕ → ℕ → Type 0
IsOwn top words_at depth words x = ((top - depth ≤ x) × (x < top)) ⊎ ((words_at ≤ x) × (x < words_at + 4 * words))

-- the argument stands in memory as a parameter word
pub record Passed (map : Map) (order : Order) (memory : ℕ → Option ℕ) (at : ℕ) (w : Word) : Type 0 where
  pub word : ℕ
  pub small : word < 2 ^ 32
  pub is : IsWord map w word
  pub stands : Stand memory at (number_bytes order 4 word)

-- ---- units

-- the next multiple of 4
abbrev pub up_four : ℕ → ℕ
up_four n = 4 * ((n + 3) / 4)

abbrev pub data_places : ℕ → List Object → List ℕ
data_places at [] = []
data_places at (x ∷ xs) = at ∷ data_places (up_four (at + length x.bytes)) xs

-- each of them ends at an address or below it
abbrev pub EndBy : ℕ → ℕ → List Object → Type 0
EndBy last at [] = Unit {0}
EndBy last at (x ∷ xs) = (at + length x.bytes ≤ last) × EndBy last (up_four (at + length x.bytes)) xs

-- no object has an address
abbrev pub bare_map : (ℕ → ℕ) → (ℕ → ℕ → ℕ) → Map
bare_map functions labels = record { object = λ o. None; function = functions; label = labels }
