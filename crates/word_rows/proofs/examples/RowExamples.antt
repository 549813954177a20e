-- Operators on numbers of a machine, and words that these aren't.
use Rattle.std.specs.Prelude.{◌≡◌, ℕ, zero, suc, ◌%◌, pos, negsuc, false, true, Option, Some, None, List, [], ◌∷◌, replicate, if◌then◌else◌, ◌==◌}
use Rattle.std.proofs.Common.{refl, arith}
use Rattle.objects.specs.declared.operators.Binary.TheVariants as binary
use Rattle.objects.specs.declared.value.ObjectName.{ObjectName}
use Rattle.objects.specs.declared.value.Value.TheVariants.{Number, Pointer}
use Rattle.objects.specs.Bytes.{unknown_byte}
use Rattle.objects.specs.Arithmetic.{binary_word, word_cause}
use Rattle.op_forest.specs.declared.op.Op.TheVariants as op
use Rattle.op_forest.specs.declared.suffix.Suffix.TheVariants.{C, I, P}
use Rattle.forests.specs.Words.{Plain, Partly}
use Rattle.forests.specs.Objects.{Object}
use Rattle.forests.specs.Addresses.{Home, local, parameter}
use Rattle.forests.specs.Bits.{bits_left, shifted}
use Rattle.forests.specs.Numbers.{moved_on, widened}
use Rattle.memory_map.specs.Maps.{Map, IsWord}
use Rattle.word_rows.specs.Pointers.{moved_number}
use Rattle.word_rows.specs.Rows.{operation, unary_number, is_load}
use Rattle.word_rows.proofs.lemmas.Numbers.{widened_is}
use Rattle.word_rows.proofs.lemmas.Bits.{and_is}
use Rattle.word_rows.proofs.lemmas.Pointers.{moves_on}

-- an object of 8 bytes at 4096
abbrev pub places : ℕ → Option ℕ
places zero = Some 4096
places (suc m) = None

abbrev pub map : Map
map = record { object = places; function = λ f. if f == 7 then 64 else (if f == 8 then 68 else 4096); label = λ f l. 0 }

abbrev pub name : ObjectName
name = record { place = 0; made = 0; size = 8 }

abbrev pub objects : List Object
objects = record { made = 0; constant = false; bytes = replicate 8 unknown_byte } ∷ []

-- 4 bytes on from the third, and 4 back
on : IsWord map (Plain (Pointer name 6)) 4102
on = moves_on map objects (Plain (Pointer name 2)) (Plain (Number 4)) (Plain (Pointer name 6)) 4098 4 (omega arith) (omega arith) (4096, refl, refl, omega arith) refl refl

back : moved_number 4102 (negsuc 3) ≡ 4098
back = refl

-- not further than behind the last byte
too_far : moved_on objects (Plain (Pointer name 6)) (Plain (Number 3)) ≡ None
too_far = refl

-- the low four bits of a word whose low byte is known to be 0x5a, though nothing else is
low_known : IsWord map (Plain (Number 10)) (0xffffff5a % 16)
low_known = and_is map (Partly 255 90) (Plain (Number 15)) (Plain (Number 10)) 0xffffff5a 15 (omega arith) (omega arith) refl refl refl

-- a char's number with 1s above it, extended by its sign: 0xff
sign : IsWord map (Plain (Number 0xffffffff)) 0xffffffff
sign = widened_is map true 8 (Partly 255 255) (Plain (Number 0xffffffff)) 0x123456ff refl refl

no_sign : widened true 8 (Plain (Pointer name 0)) ≡ None
no_sign = refl

-- shifts go by 0 to 31
shift : shifted true binary.ShiftLeft bits_left (Plain (Number 1)) (Plain (Number 32)) ≡ None
shift = refl

-- ---- the tables

signed_division : operation op.Div I ≡ Some (record { signed = true; by = binary.Divide })
signed_division = refl

no_division : operation op.Div P ≡ None
no_division = refl

sum_of : binary_word false binary.Add 0xffffffff 2 ≡ 1
sum_of = refl

overflow : word_cause true binary.Divide 0x80000000 0xffffffff ≡ None → ⊥
overflow e = cc

a_load : is_load op.Indir C ≡ true
a_load = refl

extended : unary_number op.Cvc I 0x180 ≡ 0xffffff80
extended = refl

-- ---- the body's own: a slot of 4 bytes 8 below the top, and one parameter word

abbrev home : Home
home = record { function = 0; place = 1; made = 3; slots = record { offset = negsuc 7; size = 4 } ∷ []; words = 1 }

third_byte : local home (Some (negsuc 5)) ≡ Some (Plain (Pointer (record { place = 1; made = 3; size = 4 }) 2))
third_byte = refl

at_top : moved_number 65536 (negsuc 5) ≡ 65530
at_top = refl

nothing_above : local home (Some (pos 0)) ≡ None
nothing_above = refl

word : parameter home (Some (pos 0)) ≡ Some (Plain (Pointer (record { place = 2; made = 4; size = 4 }) 0))
word = refl
