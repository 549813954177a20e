-- Conversions between integer types of 1, 2 and 4 bytes and pointers. A number is kept as a word, modulo 2^32.
-- Source: ISO/IEC 9899:1990, 6.2.1.2 and 6.3.4: a conversion to a narrower type keeps the low bits; one between a pointer
-- and a 32-bit integer type keeps the pointer.
use Rattle.std.specs.Prelude.{ℕ, ◌+◌, ◌-◌, ◌%◌, ◌^◌, nat_lt, Bool, [], ◌∷◌, Result, if◌then◌else◌}
use Rattle.lcc_base.specs.declared.cause.Cause.{Cause}
use Rattle.lcc_base.specs.declared.cause.Cause.TheVariants.{PointerNumber}
use Rattle.objects.specs.declared.value.Value.{Value}
use Rattle.objects.specs.declared.value.Value.TheVariants.{Number, Pointer, Function}
use Rattle.objects.specs.declared.width.Scalar.{Scalar}
use Rattle.objects.specs.Values.{bits_in}
use Rattle.objects.specs.Causes.{first_cause, unless, is_narrowed}

-- the word of a number of so many bits, of which the highest is its sign
abbrev pub sign_extended : ℕ → ℕ → ℕ
sign_extended bits n = if nat_lt n (2 ^ (bits - 1)) then n else n + (2 ^ 32 - 2 ^ bits)

-- the word of so many low bits of a number
abbrev pub extended : Bool → ℕ → ℕ → ℕ
extended signed bits n = if signed then sign_extended bits (n % 2 ^ bits) else n % 2 ^ bits

abbrev pub as_scalar : Scalar → ℕ → ℕ
as_scalar s n = extended s.signed (bits_in s.width) n

-- a number becomes one of the type; pointers and functions stay
abbrev pub as_type : Scalar → Value → Value
as_type s (Number n) = Number (as_scalar s n)
as_type s (Pointer object offset) = Pointer object offset
as_type s (Function f) = Function f

abbrev pub converted : Scalar → Value → Result Value Cause
converted s v = unless (first_cause ((is_narrowed s.width v, PointerNumber) ∷ [])) (as_type s v)
