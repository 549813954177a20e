-- Values of pointer type moved, ordered, subtracted, compared and tested. Dead goes before the other causes.
-- Source: ISO/IEC 9899:1990, 6.3.6, 6.3.8, 6.3.9, in the profile of this compiler.
use Rattle.std.specs.Prelude.{ℕ, ℤ, pos, ◌+◌, ◌-◌, ◌%◌, ◌^◌, ◌+ℤ◌, ◌-ℤ◌, ◌==◌, ◌||◌, not, int_div, Bool, true, List, [], ◌∷◌, Result}
use Rattle.std.specs.Int.{cast_signed, cast_unsigned, w32, int_wrap}
use Rattle.std.specs.Int.RustNames.{unsigned_abs}
use Rattle.std.specs.Ordering.{nat_cmp}
use Rattle.std.specs.declared.cmp.Ordering.{Ordering}
use Rattle.lcc_base.specs.declared.cause.Cause.{Cause}
use Rattle.lcc_base.specs.declared.cause.Cause.TheVariants.{Dead, PointerRange, PointerOrder, PointerEqual}
use Rattle.objects.specs.declared.value.Value.{Value}
use Rattle.objects.specs.declared.value.Value.TheVariants.{Number, Pointer, Function}
use Rattle.objects.specs.Values.{same_whole}
use Rattle.objects.specs.Objects.{Object}
use Rattle.objects.specs.Causes.{first_cause, unless, is_dead, leaves_object, has_no_order, is_no_multiple, has_no_equality}

abbrev pub place_after : Value → ℤ → Value
place_after (Pointer object offset) by = Pointer object (unsigned_abs (pos offset +ℤ by))
place_after (Number n) by = Number n
place_after (Function f) by = Function f

-- a value moved by so many bytes, given whether it is dead
abbrev pub moved_if : Bool → Value → ℤ → Result Value Cause
moved_if dead p by = unless (first_cause ((dead, Dead) ∷ (leaves_object p by, PointerRange) ∷ [])) (place_after p by)

abbrev pub moved : List Object → Value → ℤ → Result Value Cause
moved objects p by = moved_if (is_dead objects p) p by

-- a place in its object, or a number
abbrev pub position_of : Value → ℕ
position_of (Number n) = n
position_of (Pointer object offset) = offset
position_of (Function f) = 0

-- which of two pointers into one object, or of two numbers, is the smaller, given whether one is dead
abbrev pub ordered_if : Bool → Value → Value → Result Ordering Cause
ordered_if dead p q = unless (first_cause ((dead, Dead) ∷ (has_no_order p q, PointerOrder) ∷ [])) (nat_cmp (position_of p) (position_of q))

abbrev pub ordered : List Object → Value → Value → Result Ordering Cause
ordered objects p q = ordered_if (is_dead objects p || is_dead objects q) p q

-- how many bytes lie between: that of two numbers is taken modulo 2^32, as a signed number
abbrev pub bytes_between : Value → Value → ℤ
bytes_between (Number x) q = cast_signed w32 ((x + 2 ^ 32 - position_of q) % 2 ^ 32)
bytes_between (Pointer object offset) q = pos offset -ℤ pos (position_of q)
bytes_between (Function f) q = pos 0 -ℤ pos (position_of q)

-- how many elements of so many bytes lie between, given whether one is dead
abbrev pub subtracted_if : Bool → ℕ → Value → Value → Result Value Cause
subtracted_if dead element p q =
    unless (first_cause ((dead, Dead) ∷ (has_no_order p q, PointerOrder) ∷ (is_no_multiple (bytes_between p q) element, PointerOrder) ∷ []))
    (Number (cast_unsigned w32 (int_wrap w32 (int_div (bytes_between p q) (pos element)))))

abbrev pub subtracted : List Object → ℕ → Value → Value → Result Value Cause
subtracted objects element p q = subtracted_if (is_dead objects p || is_dead objects q) element p q

abbrev pub same : Value → Value → Bool
same (Number x) (Number y) = x == y
same p q = same_whole p q

-- whether two values of pointer type are equal, given whether one is dead
abbrev pub compared_if : Bool → Value → Value → Result Bool Cause
compared_if dead p q = unless (first_cause ((dead, Dead) ∷ (has_no_equality p q, PointerEqual) ∷ [])) (same p q)

abbrev pub compared : List Object → Value → Value → Result Bool Cause
compared objects p q = compared_if (is_dead objects p || is_dead objects q) p q

abbrev pub is_not_null : Value → Bool
is_not_null (Number n) = not (n == 0)
is_not_null (Pointer object offset) = true
is_not_null (Function f) = true

-- whether a value of pointer type holds as a test, given whether it is dead
abbrev pub tested_if : Bool → Value → Result Bool Cause
tested_if dead p = unless (first_cause ((dead, Dead) ∷ [])) (is_not_null p)

abbrev pub tested : List Object → Value → Result Bool Cause
tested objects p = tested_if (is_dead objects p) p
