-- Where a function's locals stand: a parameter in its word, if it has the size of one or is passed by its address; any other local, and a
-- narrower parameter, in a slot of the frame. The slots are in the order of the locals.
-- Source: Fraser and Hanson, A Retargetable C Compiler, chapters 5, 11 and 13 (parameters, offsets of locals).
use Rattle.std.specs.Prelude.{ℕ, suc, ◌+◌, ◌*◌, ◌/◌, ◌-◌, ℤ, pos, ◌-ℤ◌, nat_lt, ◌&&◌, not, Bool, true, false, List, [], ◌∷◌, ◌++◌, take, drop}
use Rattle.op_forest.specs.declared.frame.Slot.{Slot}
use Rattle.op_forest.specs.Frames.{lowest}
use Rattle.c_types.specs.CType.{CType}
use Rattle.c_types.specs.Layout.{Tag}
use Rattle.c_meaning.specs.Rows.{result_type}
use Rattle.c_meaning.specs.Types.{is_record}
use Rattle.c_meaning.specs.Units.{FunctionTree}
use Rattle.c_runs.specs.Places.{size_of}

-- where each local is, and the slots
pub record Layout : Type 0 where
  pub places : List ℤ
  pub slots : List Slot

-- a multiple of four that is no less, and no 0: so slots are at different places, also those of objects without a byte
abbrev pub rounded : ℕ → ℕ
rounded n = 4 * ((n - 1) / 4 + 1)

-- a slot right below others, of so many bytes rounded up
abbrev pub offset_under : ℕ → List Slot → ℤ
offset_under size slots = lowest slots -ℤ pos (rounded size)

abbrev pub slot_under : ℕ → List Slot → Slot
slot_under size slots = record { offset = offset_under size slots; size = rounded size }

abbrev pub with_place : ℤ → List Slot → Layout → Layout
with_place z new a = record { places = a.places ++ z ∷ []; slots = a.slots ++ new }

abbrev pub in_slot : ℕ → Layout → Layout
in_slot size a = with_place (offset_under size a.slots) (slot_under size a.slots ∷ []) a

-- ---- parameters

abbrev pub is_narrow : List Tag → CType → Bool
is_narrow tags t = not (is_record t) && nat_lt (size_of tags t) 4

abbrev pub parameter_by : Bool → ℕ → Layout → Layout
parameter_by true word a = in_slot 4 a
parameter_by false word a = with_place (pos (4 * word)) [] a

-- from this word on
abbrev pub with_parameters : List Tag → ℕ → List CType → Layout → Layout
with_parameters tags word [] a = a
with_parameters tags word (t ∷ ts) a = with_parameters tags (suc word) ts (parameter_by (is_narrow tags t) word a)

-- ---- other locals

abbrev pub with_locals : List Tag → List CType → Layout → Layout
with_locals tags [] a = a
with_locals tags (t ∷ ts) a = with_locals tags ts (in_slot (size_of tags t) a)

-- ---- a function's

-- the address for a structure result is the first word
abbrev pub hidden_words : Bool → ℕ
hidden_words true = 1
hidden_words false = 0

abbrev pub first_word : FunctionTree → ℕ
first_word f = hidden_words (is_record (result_type f.of))

abbrev pub words_of : FunctionTree → ℕ
words_of f = first_word f + f.parameters

abbrev pub layout : List Tag → FunctionTree → Layout
layout tags f = with_locals tags (drop f.parameters f.locals) (with_parameters tags (first_word f) (take f.parameters f.locals) (record { places = []; slots = [] }))
