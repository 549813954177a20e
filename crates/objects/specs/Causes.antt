-- When a run is undefined by values, bytes and objects: each case as a test, under the name of its cause.
-- Source: ISO/IEC 9899:1990, 6.2.2.3, 6.3 to 6.3.16, in the profile of this compiler.
use Rattle.std.specs.Prelude.{ℕ, ℤ, pos, ◌+◌, ◌-◌, ◌/◌, ◌%◌, ◌^◌, ◌+ℤ◌, ◌==◌, ◌&&◌, ◌||◌, not, nat_lt, int_le, int_rem, Bool, true, false, List, [], ◌∷◌, map, Option, Some, None, is_none, Result, Ok, Err, if◌then◌else◌}
use Rattle.std.specs.Int.RustNames.{unsigned_abs}
use Rattle.lcc_base.specs.declared.order.Order.{Order}
use Rattle.lcc_base.specs.declared.cause.Cause.{Cause}
use Rattle.lcc_base.specs.NumberIn.{number_in}
use Rattle.objects.specs.declared.byte.Byte.{Byte}
use Rattle.objects.specs.declared.purpose.Purpose.{Purpose}
use Rattle.objects.specs.declared.purpose.Purpose.TheVariants.{Assignment, Initialisation}
use Rattle.objects.specs.declared.value.ObjectName.{ObjectName}
use Rattle.objects.specs.declared.value.Value.{Value}
use Rattle.objects.specs.declared.value.Value.TheVariants.{Number, Pointer, Function}
use Rattle.objects.specs.declared.width.Width.{Width}
use Rattle.objects.specs.declared.width.Width.TheVariants.{One, Two, Four}
use Rattle.objects.specs.Values.{same_object}
use Rattle.objects.specs.Bytes.{has_unknown_bits, has_parts, settled_of, part_bits_of, by_weight, whole_of}
use Rattle.objects.specs.Objects.{Object, object_of, is_constant}

-- the first cause whose case is so
abbrev pub first_cause : List (Bool × Cause) → Option Cause
first_cause [] = None
first_cause (c ∷ cs) = if c.0 then Some c.1 else first_cause cs

-- what is given, unless there is a cause
abbrev pub unless : {A : Type 0} → Option Cause → A → Result A Cause
unless None a = Ok a
unless (Some c) a = Err c

-- ---- access to objects, by a pointer and the size and alignment of what is accessed

-- Outside: an access lies outside an object, or goes through a number, null or a function
abbrev pub is_outside : ℕ → Value → Bool
is_outside size (Pointer object offset) = nat_lt object.size (offset + size)
is_outside size (Number n) = true
is_outside size (Function f) = true

-- Misaligned: an access's offset in its object isn't a multiple of its type's alignment
abbrev pub is_misaligned : ℕ → Value → Bool
is_misaligned alignment (Pointer object offset) = not (offset % alignment == 0)
is_misaligned alignment (Number n) = false
is_misaligned alignment (Function f) = false

-- Dead: a pointer to an object past its lifetime is accessed, compared or moved
abbrev pub is_dead : List Object → Value → Bool
is_dead objects (Pointer object offset) = is_none (object_of objects object)
is_dead objects (Number n) = false
is_dead objects (Function f) = false

-- ReadOnly: a string literal or const object is written
abbrev pub is_read_only : List Object → Value → Bool
is_read_only objects (Pointer object offset) = is_constant (object_of objects object)
is_read_only objects (Number n) = false
is_read_only objects (Function f) = false

-- an initialiser's own stores go into const objects too
abbrev pub is_refused : Purpose → List Object → Value → Bool
is_refused Assignment objects p = is_read_only objects p
is_refused Initialisation objects p = false

-- ---- what is read

-- Unknown: a scalar is read and one of its bits is unknown
abbrev pub is_unknown : {V : Type 0} → List (Byte V) → Bool
is_unknown bytes = has_unknown_bits bytes

-- PointerBytes: a scalar is read that holds a byte of a pointer or function, but not all bytes of one in order
abbrev pub breaks_whole : {V : Type 0} → (V → V → Bool) → Order → List (Byte V) → Bool
breaks_whole same order bytes = has_parts bytes && is_none (whole_of same (by_weight order bytes))

-- the bits of a number from a place on, from the least, so many
abbrev pub bits_from : ℕ → ℕ → ℕ → ℕ
bits_from shift width n = n / 2 ^ shift % 2 ^ width

-- Unknown: a bit-field is read and one of its bits is unknown
abbrev pub is_unknown_field : {V : Type 0} → Order → ℕ → ℕ → List (Byte V) → Bool
is_unknown_field order shift width unit = not (bits_from shift width (number_in order (map settled_of unit)) == 2 ^ width - 1)

-- PointerBytes: a bit-field is read that has a bit in a byte of a pointer or function
abbrev pub is_in_part : {V : Type 0} → Order → ℕ → ℕ → List (Byte V) → Bool
is_in_part order shift width unit = not (bits_from shift width (number_in order (map part_bits_of unit)) == 0)

-- ---- pointers

-- PointerRange: pointer arithmetic, the selection of a member included, leaves 0 to the size of its object, or moves a
-- number or a function by anything but 0
abbrev pub leaves_object : Value → ℤ → Bool
leaves_object (Pointer object offset) by = not (int_le (pos 0) (pos offset +ℤ by) && int_le (pos offset +ℤ by) (pos object.size))
leaves_object (Number n) by = not (unsigned_abs by == 0)
leaves_object (Function f) by = not (unsigned_abs by == 0)

-- PointerOrder: two values of pointer type are ordered or subtracted that are neither both pointers into one object nor
-- both numbers
abbrev pub has_no_order : Value → Value → Bool
has_no_order (Pointer a x) (Pointer b y) = not (same_object a b)
has_no_order (Number x) (Number y) = false
has_no_order v w = true

-- PointerOrder: or the difference isn't a multiple of the element, which one of size 0 never is
abbrev pub is_no_multiple : ℤ → ℕ → Bool
is_no_multiple difference element = element == 0 || not (unsigned_abs (int_rem difference (pos element)) == 0)

abbrev pub is_one_past : ObjectName → ℕ → Bool
is_one_past object offset = offset == object.size

-- PointerEqual: a one-past pointer is compared with another object's pointer, or a pointer or function with a number
-- other than 0
abbrev pub has_no_equality : Value → Value → Bool
has_no_equality (Pointer a x) (Pointer b y) = not (same_object a b) && (is_one_past a x || is_one_past b y)
has_no_equality (Pointer a x) (Number n) = not (n == 0)
has_no_equality (Function f) (Number n) = not (n == 0)
has_no_equality (Number n) (Pointer b y) = not (n == 0)
has_no_equality (Number n) (Function g) = not (n == 0)
has_no_equality (Number n) (Number m) = false
has_no_equality (Pointer a x) (Function g) = false
has_no_equality (Function f) (Pointer b y) = false
has_no_equality (Function f) (Function g) = false

-- ---- numbers

-- PointerNumber: a pointer or function held in an integer type is used otherwise than by copying, passing or converting
-- to 32 bits
abbrev pub is_no_number : Value → Bool
is_no_number (Number n) = false
is_no_number (Pointer object offset) = true
is_no_number (Function f) = true

-- PointerNumber: or a pointer or function is converted to a narrower type
abbrev pub is_narrowed : Width → Value → Bool
is_narrowed Four v = false
is_narrowed One v = is_no_number v
is_narrowed Two v = is_no_number v

-- ZeroDivisor: the right operand of / or % is 0
abbrev pub is_zero : Value → Bool
is_zero (Number n) = n == 0
is_zero v = false

-- DivideOverflow: -2^31 is divided by -1, by / or %
abbrev pub overflows : Value → Value → Bool
overflows (Number x) (Number y) = (x == 2 ^ 31) && (y == 2 ^ 32 - 1)
overflows v w = false

-- ShiftCount: a shift count is outside 0 to 31
abbrev pub is_no_count : Value → Bool
is_no_count (Number n) = nat_lt 31 n
is_no_count v = false

-- ---- structures

-- Overlap: a structure is assigned to a place that overlaps it in part
abbrev pub overlaps_in_part : ℕ → Value → Value → Bool
overlaps_in_part size (Pointer a x) (Pointer b y) = same_object a b && (not (x == y) && (nat_lt x (y + size) && nat_lt y (x + size)))
overlaps_in_part size v w = false
