-- Bit-fields: units of which some bits are known, as forests read and write them.
use Rattle.std.specs.Prelude.{◌≡◌, ◌≤◌, ℕ, ◌+◌, ◌-◌, ◌*◌, ◌%◌, ◌^◌, Some, Ok, List}
use Rattle.lcc_base.specs.declared.order.Order.{Order}
use Rattle.objects.specs.declared.field.Field.{Field}
use Rattle.objects.specs.declared.operators.Binary.TheVariants as binary
use Rattle.objects.specs.declared.purpose.Purpose.{Purpose}
use Rattle.objects.specs.declared.value.Value.{Value}
use Rattle.objects.specs.declared.value.Value.TheVariants.{Number}
use Rattle.objects.specs.Accesses.{field_written, number_or_zero}
use Rattle.objects.specs.Fields.{shift_of}
use Rattle.objects.specs.Objects.{Object as Old}
use Rattle.forests.specs.Accesses.{word_read, word_written}
use Rattle.forests.specs.Bits.{bits_and, bits_or, bitwise}
use Rattle.forests.specs.Objects.{Object}
use Rattle.forests.specs.Sound.{AreSoundObjects}
use Rattle.forests.specs.Words.{Word, Plain}
use Rattle.c_match.specs.Ranges.{Map}
use Rattle.c_match.specs.Values.{IsValue}
use Rattle.c_match.specs.Held.{AreHeld, IsOpenTo}
use Rattle.c_match_objects.specs.Accesses.{IsKept}

-- the bits of a unit that aren't a field's
abbrev pub other_bits : Order → Field → ℕ
other_bits order f = 2 ^ 32 - 1 - (2 ^ f.width - 1) * 2 ^ shift_of order f

-- a number's low bits, where the field has them
abbrev pub placed : Order → Field → ℕ → ℕ
placed order f n = n % 2 ^ f.width * 2 ^ shift_of order f

-- Forests read the unit, whatever of it is known, clear the field's bits, set the new ones and write the unit.
pub record IsFieldWritten (map : Map) (old new : List Old) (objects : List Object) (order : Order) (f : Field) (n : ℕ) (w : Word) : Type 0 where
  pub unit : Word
  pub cleared : Word
  pub set : Word
  pub after : List Object
  pub reads : word_read order objects w ≡ Some unit
  pub clears : bitwise binary.And bits_and unit (Plain (Number (other_bits order f))) ≡ Some cleared
  pub sets : bitwise binary.Or bits_or cleared (Plain (Number (placed order f n))) ≡ Some set
  pub writes : word_written order set objects w ≡ Some after
  pub kept : IsKept map old new objects after

-- so it is where C writes a field
abbrev pub FieldsAreStored : Type 0
FieldsAreStored =
    (map : Map) (old new : List Old) (objects : List Object) (order : Order) (purpose : Purpose) (f : Field) (p v : Value) (w : Word)
    → AreHeld map old objects → AreSoundObjects objects → IsValue map p w → IsOpenTo purpose map objects p → f.first + f.width ≤ 32 → field_written purpose order f v old p ≡ Ok new
    → IsFieldWritten map old new objects order f (number_or_zero v) w
