-- A bit-field that is read, of a unit of which C knows the field's bits alone.
use Rattle.std.specs.Prelude.{◌≡◌, ◌≤◌, ℕ, ◌+◌, ◌-◌, Bool, true, false, Some, Ok, List}
use Rattle.lcc_base.specs.declared.order.Order.{Order}
use Rattle.objects.specs.declared.field.Field.{Field}
use Rattle.objects.specs.declared.operators.Binary.TheVariants as binary
use Rattle.objects.specs.declared.value.Value.{Value}
use Rattle.objects.specs.declared.value.Value.TheVariants.{Number}
use Rattle.objects.specs.Accesses.{field_read}
use Rattle.objects.specs.Fields.{shift_of}
use Rattle.objects.specs.Objects.{Object as Old}
use Rattle.forests.specs.Accesses.{word_read}
use Rattle.forests.specs.Bits.{KnownBits, bits_left, bits_right, bits_right_signed, shifted}
use Rattle.forests.specs.Objects.{Object}
use Rattle.forests.specs.Sound.{AreSoundObjects}
use Rattle.forests.specs.Words.{Word, Plain}
use Rattle.c_match.specs.Ranges.{Map}
use Rattle.c_match.specs.Values.{IsValue}
use Rattle.c_match.specs.Held.{AreHeld}

abbrev pub right_bits : Bool → ℕ → KnownBits → KnownBits
right_bits true count a = bits_right_signed count a
right_bits false count a = bits_right count a

-- how many bits of the unit weigh more than the field's
abbrev pub above_of : Order → Field → ℕ
above_of order f = 32 - (shift_of order f + f.width)

-- Forests read the unit, raise the field's bits to the top of the word, and lower them with their sign or without.
pub record IsFieldRead (objects : List Object) (order : Order) (f : Field) (v : Value) (w : Word) : Type 0 where
  pub unit : Word
  pub raised : Word
  pub reads : word_read order objects w ≡ Some unit
  pub raises : shifted true binary.ShiftLeft bits_left unit (Plain (Number (above_of order f))) ≡ Some raised
  pub lowers : shifted f.signed binary.ShiftRight (right_bits f.signed) raised (Plain (Number (32 - f.width))) ≡ Some (Plain v)

-- so they have the number that C reads
abbrev pub FieldsAreRead : Type 0
FieldsAreRead =
    (map : Map) (old : List Old) (objects : List Object) (order : Order) (f : Field) (p v : Value) (w : Word)
    → AreHeld map old objects → AreSoundObjects objects → IsValue map p w → 1 ≤ f.width → f.first + f.width ≤ 32 → field_read order f old p ≡ Ok v
    → IsFieldRead objects order f v w
