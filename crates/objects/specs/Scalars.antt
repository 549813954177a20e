-- The bytes of a scalar in memory, and the scalar that bytes in memory are.
-- Source: ISO/IEC 9899:1990, 6.1.2.5 (representation of types).
use Rattle.std.specs.Prelude.{ℕ, List, [], ◌∷◌, Option, Some, None, Result}
use Rattle.lcc_base.specs.declared.order.Order.{Order}
use Rattle.lcc_base.specs.declared.cause.Cause.{Cause}
use Rattle.lcc_base.specs.declared.cause.Cause.TheVariants.{Unknown, PointerBytes}
use Rattle.objects.specs.declared.byte.Byte.{Byte}
use Rattle.objects.specs.declared.value.Value.{Value}
use Rattle.objects.specs.declared.value.Value.TheVariants.{Number, Pointer, Function}
use Rattle.objects.specs.declared.width.Width.{Width}
use Rattle.objects.specs.declared.width.Scalar.{Scalar}
use Rattle.objects.specs.Values.{bytes_in, same_whole}
use Rattle.objects.specs.Bytes.{known_bytes, number_bytes, part_bytes, by_weight, whole_of, number_of_bytes}
use Rattle.objects.specs.Causes.{first_cause, unless, is_unknown, breaks_whole}
use Rattle.objects.specs.Conversions.{as_type}

-- the low bytes of a number; the four bytes of a pointer or function
abbrev pub scalar_bytes : Order → Width → Value → List (Byte Value)
scalar_bytes order width (Number n) = known_bytes (number_bytes order (bytes_in width) n)
scalar_bytes order width (Pointer object offset) = part_bytes order (Pointer object offset)
scalar_bytes order width (Function f) = part_bytes order (Function f)

-- a pointer or function, or else the number
abbrev pub whole_or : Option Value → ℕ → Value
whole_or (Some v) n = v
whole_or None n = Number n

-- why bytes are no scalar
abbrev pub scalar_cause : Order → List (Byte Value) → Option Cause
scalar_cause order bytes = first_cause ((is_unknown bytes, Unknown) ∷ (breaks_whole same_whole order bytes, PointerBytes) ∷ [])

-- the scalar that bytes are, a number with zeros above
abbrev pub scalar_value : Order → List (Byte Value) → Value
scalar_value order bytes = whole_or (whole_of same_whole (by_weight order bytes)) (number_of_bytes order bytes)

-- the scalar of a type, or why there is none
abbrev pub scalar_of : Order → Scalar → List (Byte Value) → Result Value Cause
scalar_of order s bytes = unless (scalar_cause order bytes) (as_type s (scalar_value order bytes))
