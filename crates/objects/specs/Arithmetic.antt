-- Arithmetic on words, as signed or unsigned numbers of 32 bits. Where several causes stand together, the first in the order
-- ZeroDivisor, DivideOverflow, ShiftCount, PointerNumber is told.
-- Source: ISO/IEC 9899:1990, 6.3.3.3, 6.3.5 to 6.3.12: signed numbers wrap modulo 2^32, division truncates toward zero, the
-- right shift of a negative number is arithmetic.
use Rattle.std.specs.Prelude.{ℕ, ℤ, ◌+◌, ◌-◌, ◌*◌, ◌/◌, ◌%◌, ◌^◌, ◌==◌, ◌&&◌, ◌||◌, not, nat_lt, int_lt, int_div, int_rem, bit_and, bit_or, bit_xor, Bool, true, false, [], ◌∷◌, Option, Some, None, Result, if◌then◌else◌}
use Rattle.std.specs.Int.{cast_signed, cast_unsigned, w32, int_shr}
use Rattle.lcc_base.specs.declared.cause.Cause.{Cause}
use Rattle.lcc_base.specs.declared.cause.Cause.TheVariants.{ZeroDivisor, DivideOverflow, ShiftCount, PointerNumber}
use Rattle.objects.specs.declared.operators.Unary.{Unary}
use Rattle.objects.specs.declared.operators.Unary.TheVariants as unary
use Rattle.objects.specs.declared.operators.Binary.{Binary}
use Rattle.objects.specs.declared.operators.Binary.TheVariants as binary
use Rattle.objects.specs.declared.operators.Comparison.{Comparison}
use Rattle.objects.specs.declared.operators.Comparison.TheVariants as comparison
use Rattle.objects.specs.declared.value.Value.{Value}
use Rattle.objects.specs.declared.value.Value.TheVariants.{Number}
use Rattle.objects.specs.Causes.{first_cause, unless, is_zero, overflows, is_no_count, is_no_number}
use Rattle.objects.specs.Accesses.{number_or_zero}

-- the signed number of a word, and the word of a signed number
abbrev pub signed_of : ℕ → ℤ
signed_of x = cast_signed w32 x

abbrev pub word_of : ℤ → ℕ
word_of z = cast_unsigned w32 z

abbrev pub unary_word : Unary → ℕ → ℕ
unary_word unary.Plus x = x
unary_word unary.Negate x = (2 ^ 32 - x) % 2 ^ 32
unary_word unary.Complement x = 2 ^ 32 - 1 - x

-- signed or unsigned, where it matters
abbrev pub binary_word : Bool → Binary → ℕ → ℕ → ℕ
binary_word signed binary.Add x y = (x + y) % 2 ^ 32
binary_word signed binary.Subtract x y = (x + 2 ^ 32 - y) % 2 ^ 32
binary_word signed binary.Multiply x y = (x * y) % 2 ^ 32
binary_word signed binary.Divide x y = if signed then word_of (int_div (signed_of x) (signed_of y)) else x / y
binary_word signed binary.Remainder x y = if signed then word_of (int_rem (signed_of x) (signed_of y)) else x % y
binary_word signed binary.ShiftLeft x y = (x * 2 ^ y) % 2 ^ 32
binary_word signed binary.ShiftRight x y = if signed then word_of (int_shr (signed_of x) y) else x / 2 ^ y
binary_word signed binary.And x y = bit_and x y
binary_word signed binary.Or x y = bit_or x y
binary_word signed binary.Xor x y = bit_xor x y

abbrev pub is_division : Binary → Bool
is_division binary.Divide = true
is_division binary.Remainder = true
is_division op = false

abbrev pub is_shift : Binary → Bool
is_shift binary.ShiftLeft = true
is_shift binary.ShiftRight = true
is_shift op = false

abbrev pub is_less : Bool → ℕ → ℕ → Bool
is_less signed x y = if signed then int_lt (signed_of x) (signed_of y) else nat_lt x y

abbrev pub holds : Bool → Comparison → ℕ → ℕ → Bool
holds signed comparison.Equal x y = x == y
holds signed comparison.NotEqual x y = not (x == y)
holds signed comparison.Less x y = is_less signed x y
holds signed comparison.LessEqual x y = not (is_less signed y x)
holds signed comparison.Greater x y = is_less signed y x
holds signed comparison.GreaterEqual x y = not (is_less signed x y)

-- an operation on one integer
abbrev pub unary_value : Unary → Value → Result Value Cause
unary_value op v = unless (first_cause ((is_no_number v, PointerNumber) ∷ [])) (Number (unary_word op (number_or_zero v)))

-- why an operation on two integers has no result
abbrev pub binary_cause : Bool → Binary → Value → Value → Option Cause
binary_cause signed op v w =
    first_cause
    ((is_division op && is_zero w, ZeroDivisor) ∷ (is_division op && (signed && overflows v w), DivideOverflow)
    ∷ (is_shift op && is_no_count w, ShiftCount) ∷ (is_no_number v || is_no_number w, PointerNumber) ∷ [])

-- an operation on two integers, signed as its left operand is
abbrev pub binary_value : Bool → Binary → Value → Value → Result Value Cause
binary_value signed op v w = unless (binary_cause signed op v w) (Number (binary_word signed op (number_or_zero v) (number_or_zero w)))

-- ---- the same of words, and of a left operand that is no number

abbrev pub division_cause : Bool → ℕ → ℕ → Option Cause
division_cause signed x y =
    if y == 0 then Some ZeroDivisor else (if signed && ((x == 2 ^ 31) && (y == 2 ^ 32 - 1)) then Some DivideOverflow else None)

abbrev pub shift_cause : ℕ → Option Cause
shift_cause y = if nat_lt 31 y then Some ShiftCount else None

abbrev pub word_cause : Bool → Binary → ℕ → ℕ → Option Cause
word_cause signed binary.Divide x y = division_cause signed x y
word_cause signed binary.Remainder x y = division_cause signed x y
word_cause signed binary.ShiftLeft x y = shift_cause y
word_cause signed binary.ShiftRight x y = shift_cause y
word_cause signed op x y = None

abbrev pub right_cause : Binary → ℕ → Cause
right_cause op y =
    if is_division op && (y == 0) then ZeroDivisor else (if is_shift op && nat_lt 31 y then ShiftCount else PointerNumber)

-- two integers compared
abbrev pub comparison_value : Bool → Comparison → Value → Value → Result Bool Cause
comparison_value signed op v w =
    unless (first_cause ((is_no_number v || is_no_number w, PointerNumber) ∷ [])) (holds signed op (number_or_zero v) (number_or_zero w))

-- whether an integer holds as a test
abbrev pub integer_tested : Value → Result Bool Cause
integer_tested v = unless (first_cause ((is_no_number v, PointerNumber) ∷ [])) (not (number_or_zero v == 0))
