-- Scalars and bit-fields read and written through pointers. Where several causes stand together, the first in this order is
-- told: Outside, Misaligned, Dead, ReadOnly, and then of what is read Unknown and PointerBytes.
-- Source: ISO/IEC 9899:1990, 6.3, 6.3.3.2, 6.3.16, in the profile of this compiler.
use Rattle.std.specs.Prelude.{ℕ, List, [], ◌∷◌, length, replicate, Option, Some, None, is_none, Result, Ok, Err}
use Rattle.lcc_base.specs.declared.order.Order.{Order}
use Rattle.lcc_base.specs.declared.cause.Cause.{Cause}
use Rattle.lcc_base.specs.declared.cause.Cause.TheVariants.{Outside, Misaligned, Dead, ReadOnly, PointerNumber}
use Rattle.objects.specs.declared.byte.Byte.{Byte}
use Rattle.objects.specs.declared.byte.Byte.TheVariants.{Bits}
use Rattle.objects.specs.declared.field.Field.{Field}
use Rattle.objects.specs.declared.purpose.Purpose.{Purpose}
use Rattle.objects.specs.declared.value.ObjectName.{ObjectName}
use Rattle.objects.specs.declared.value.Value.{Value}
use Rattle.objects.specs.declared.value.Value.TheVariants.{Number, Pointer, Function}
use Rattle.objects.specs.declared.width.Width.{Width}
use Rattle.objects.specs.declared.width.Scalar.{Scalar}
use Rattle.objects.specs.Values.{bytes_in}
use Rattle.objects.specs.Bytes.{known_bytes}
use Rattle.objects.specs.Objects.{Object, object_of, bytes_at, stored}
use Rattle.objects.specs.Causes.{first_cause, unless, is_outside, is_misaligned, is_dead, is_refused, is_narrowed, is_no_number}
use Rattle.objects.specs.Scalars.{scalar_bytes, scalar_of}
use Rattle.objects.specs.Fields.{field_in, with_field}

-- why so many bytes at a place aren't read
abbrev pub read_cause : List Object → Value → ℕ → ℕ → Option Cause
read_cause objects p size alignment =
    first_cause ((is_outside size p, Outside) ∷ (is_misaligned alignment p, Misaligned) ∷ (is_dead objects p, Dead) ∷ [])

-- why they aren't written
abbrev pub write_cause : Purpose → List Object → Value → ℕ → ℕ → Option Cause
write_cause purpose objects p size alignment =
    first_cause ((is_outside size p, Outside) ∷ (is_misaligned alignment p, Misaligned) ∷ (is_dead objects p, Dead) ∷ (is_refused purpose objects p, ReadOnly) ∷ [])

-- the bytes there, and the objects with others there
abbrev pub bytes_through : List Object → Value → ℕ → List (Byte Value)
bytes_through objects (Pointer object offset) size = bytes_at objects object offset size
bytes_through objects v size = []

abbrev pub stored_through : List Object → Value → List (Byte Value) → List Object
stored_through objects (Pointer object offset) new = stored objects object.place offset new
stored_through objects v new = objects

-- goes on, unless there is a cause
abbrev pub if_none : {A : Type 0} → Option Cause → Result A Cause → Result A Cause
if_none None r = r
if_none (Some c) r = Err c

-- the scalar of a type at a place
abbrev pub read : Order → Scalar → List Object → Value → Result Value Cause
read order s objects p = if_none (read_cause objects p (bytes_in s.width) (bytes_in s.width)) (scalar_of order s (bytes_through objects p (bytes_in s.width)))

-- the number that was read, if it was one
abbrev pub number_given : Result Value Cause → Option ℕ
number_given (Ok (Number n)) = Some n
number_given r = None

-- the objects once a value is written as a scalar of so many bytes
abbrev pub written : Purpose → Order → Width → Value → List Object → Value → Result (List Object) Cause
written purpose order width v objects p =
    if_none (first_cause ((is_narrowed width v, PointerNumber) ∷ []))
    (unless (write_cause purpose objects p (bytes_in width) (bytes_in width)) (stored_through objects p (scalar_bytes order width v)))

-- the objects once known bytes are written one behind the other
abbrev pub bytes_written : Purpose → List ℕ → List Object → Value → Result (List Object) Cause
bytes_written purpose bytes objects p = unless (write_cause purpose objects p (length bytes) 1) (stored_through objects p (known_bytes bytes))

-- the number of a bit-field whose unit is at a place
abbrev pub field_read : Order → Field → List Object → Value → Result Value Cause
field_read order f objects p = if_none (read_cause objects p 4 4) (field_in order f (bytes_through objects p 4))

abbrev pub number_or_zero : Value → ℕ
number_or_zero (Number n) = n
number_or_zero (Pointer object offset) = 0
number_or_zero (Function f) = 0

-- the objects once a number is written into a bit-field
abbrev pub field_written : Purpose → Order → Field → Value → List Object → Value → Result (List Object) Cause
field_written purpose order f v objects p =
    if_none (first_cause ((is_no_number v, PointerNumber) ∷ []))
    (unless (write_cause purpose objects p 4 4) (stored_through objects p (with_field order f (number_or_zero v) (bytes_through objects p 4))))

-- the objects once each byte of one is zero
abbrev pub zeroed : List Object → ObjectName → Result (List Object) Cause
zeroed objects name = unless (first_cause ((is_none (object_of objects name), Dead) ∷ [])) (stored objects name.place 0 (replicate name.size (Bits 255 0)))
