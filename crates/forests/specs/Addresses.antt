-- The addresses of names, of labels, of a function's own slots and of its parameter words.
-- Source: Fraser and Hanson, A Retargetable C Compiler, chapters 5 and 13 (offsets of parameters and locals).
use Rattle.std.specs.Prelude.{ℕ, suc, ◌+◌, ◌/◌, ◌%◌, ℤ, pos, negsuc, ◌-ℤ◌, int_le, int_lt, nat_lt, ◌&&◌, Bool, List, [], ◌∷◌, length, Option, Some, None, if◌then◌else◌}
use Rattle.std.specs.Int.RustNames.{unsigned_abs}
use Rattle.lcc_base.specs.declared.order.Order.{Order}
use Rattle.objects.specs.declared.value.Value.{Value}
use Rattle.objects.specs.declared.value.Value.TheVariants.{Pointer}
use Rattle.objects.specs.Pointers.{moved}
use Rattle.op_forest.specs.declared.frame.Slot.{Slot}
use Rattle.op_forest.specs.declared.sym.Sym.{Sym}
use Rattle.op_forest.specs.declared.sym.Sym.TheVariants as sym
use Rattle.op_forest.specs.Frames.{end_of}
use Rattle.forests.specs.Words.{Word, Plain, Label}
use Rattle.forests.specs.Objects.{Object, shapes}
use Rattle.forests.specs.Accesses.{defined}

-- The function whose body runs: its name; its frame's slots, which are the objects from a place and a number on; and
-- the number of its parameter words, which are the objects of 4 bytes behind these.
pub record Home : Type 0 where
  pub function : ℕ
  pub place : ℕ
  pub made : ℕ
  pub slots : List Slot
  pub words : ℕ

-- what rows read beside operands and objects: the values of names, the order of bytes in memory, and the body's own
-- objects
pub record Environment : Type 0 where
  pub global : ℕ → Option Value
  pub order : Order
  pub home : Home

abbrev pub plain : Option Value → Option Word
plain None = None
plain (Some v) = Some (Plain v)

-- so many bytes behind a value of pointer type, as in C
abbrev pub moved_from : List Object → Option Value → ℤ → Option Word
moved_from objects None by = None
moved_from objects (Some v) by = plain (defined (moved (shapes objects) v by))

-- the value of a name, moved; or a label of the function itself
abbrev pub named : Environment → List Object → Sym → Option Word
named e objects (sym.Global name offset) = moved_from objects (e.global name) offset
named e objects (sym.Label l) = Some (Label e.home.function l)
named e objects x = None

-- the byte at this offset from the frame's top is one of the slot
abbrev pub lies_in : Slot → ℤ → Bool
lies_in s offset = int_le s.offset offset && int_lt offset (end_of s)

-- the place at this offset in these slots, which are the objects from a place and a number on
abbrev pub slot_place : ℕ → ℕ → List Slot → ℤ → Option Word
slot_place place made [] offset = None
slot_place place made (s ∷ ss) offset =
    if lies_in s offset then Some (Plain (Pointer (record { place = place; made = made; size = s.size }) (unsigned_abs (offset -ℤ s.offset))))
    else slot_place (suc place) (suc made) ss offset

abbrev pub local : Home → Option ℤ → Option Word
local home None = None
local home (Some offset) = slot_place home.place home.made home.slots offset

-- the place at this offset from the first parameter word
abbrev pub word_place : Home → ℤ → Option Word
word_place home (pos n) =
    if nat_lt (n / 4) home.words then
    Some (Plain (Pointer (record { place = home.place + length home.slots + n / 4; made = home.made + length home.slots + n / 4; size = 4 }) (n % 4)))
    else None
word_place home (negsuc n) = None

abbrev pub parameter : Home → Option ℤ → Option Word
parameter home None = None
parameter home (Some offset) = word_place home offset
