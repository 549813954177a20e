-- Bit-fields: some bits of a unit of four bytes.
-- Source: ISO/IEC 9899:1990, 6.5.2.1: a unit is filled from its most significant bit where the first byte weighs most, and
-- from the least significant one where it weighs least.
use Rattle.std.specs.Prelude.{ℕ, ◌+◌, ◌-◌, ◌*◌, ◌/◌, ◌%◌, ◌^◌, List, [], ◌∷◌, map, Option, Result}
use Rattle.lcc_base.specs.declared.order.Order.{Order}
use Rattle.lcc_base.specs.declared.order.Order.TheVariants.{Big, Little}
use Rattle.lcc_base.specs.declared.cause.Cause.{Cause}
use Rattle.lcc_base.specs.declared.cause.Cause.TheVariants.{Unknown, PointerBytes}
use Rattle.lcc_base.specs.NumberIn.{number_in}
use Rattle.objects.specs.declared.byte.Byte.{Byte}
use Rattle.objects.specs.declared.byte.Byte.TheVariants.{Bits}
use Rattle.objects.specs.declared.field.Field.{Field}
use Rattle.objects.specs.declared.value.Value.{Value}
use Rattle.objects.specs.declared.value.Value.TheVariants.{Number}
use Rattle.objects.specs.Bytes.{known_of, value_of, number_bytes, number_of_bytes}
use Rattle.objects.specs.Causes.{first_cause, unless, bits_from, is_unknown_field, is_in_part}
use Rattle.objects.specs.Conversions.{extended}

-- how many bits of the unit weigh less than the field's
abbrev pub shift_of : Order → Field → ℕ
shift_of Big f = 32 - (f.first + f.width)
shift_of Little f = f.first

abbrev pub field_cause : Order → Field → List (Byte Value) → Option Cause
field_cause order f unit =
    first_cause ((is_unknown_field order (shift_of order f) f.width unit, Unknown) ∷ (is_in_part order (shift_of order f) f.width unit, PointerBytes) ∷ [])

-- the number of a field of the type, or why there is none
abbrev pub field_in : Order → Field → List (Byte Value) → Result Value Cause
field_in order f unit =
    unless (field_cause order f unit) (Number (extended f.signed f.width (bits_from (shift_of order f) f.width (number_of_bytes order unit))))

-- a number with others in place of so many of its bits
abbrev pub with_bits : ℕ → ℕ → ℕ → ℕ → ℕ
with_bits shift width new n = n / 2 ^ (shift + width) * 2 ^ (shift + width) + new % 2 ^ width * 2 ^ shift + n % 2 ^ shift

-- bytes of these known bits and values
abbrev pub bits_of : List ℕ → List ℕ → List (Byte Value)
bits_of (k ∷ ks) (v ∷ vs) = Bits k v ∷ bits_of ks vs
bits_of ks vs = []

-- A unit with a number in the field. Its other bits stay, but those in bytes of pointers and functions become unknown.
abbrev pub with_field : Order → Field → ℕ → List (Byte Value) → List (Byte Value)
with_field order f n unit =
    bits_of
    (number_bytes order 4 (with_bits (shift_of order f) f.width (2 ^ f.width - 1) (number_in order (map known_of unit))))
    (number_bytes order 4 (with_bits (shift_of order f) f.width n (number_in order (map value_of unit))))
