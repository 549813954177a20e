-- Reads and writes worked out by hand.
use Rattle.std.proofs.Common.{◌≡◌, true, false, List, [], ◌∷◌, Ok, Err, refl, pos, negsuc}
use Rattle.std.specs.Int.{int_wrap}
use Rattle.lcc_base.specs.declared.order.Order.TheVariants.{Big, Little}
use Rattle.lcc_base.specs.declared.cause.Cause.TheVariants as cause
use Rattle.objects.specs.declared.byte.Byte.TheVariants.{Bits, Part}
use Rattle.objects.specs.declared.purpose.Purpose.TheVariants.{Assignment, Initialisation}
use Rattle.objects.specs.declared.value.ObjectName.{ObjectName}
use Rattle.objects.specs.declared.value.Value.TheVariants.{Number, Pointer, Function}
use Rattle.objects.specs.declared.width.Width.TheVariants.{Two, Four}
use Rattle.objects.specs.declared.width.Scalar.{Scalar}
use Rattle.objects.specs.Objects.{Object}
use Rattle.objects.specs.Scalars.{scalar_bytes}
use Rattle.objects.specs.Fields.{field_in, with_field}
use Rattle.objects.specs.Accesses.{read, written, field_read}
use Rattle.objects.specs.Copies.{copied}
use Rattle.objects.specs.Pointers.{moved, subtracted, compared}

-- 0x01020304 in both orders
big_word : scalar_bytes Big Four (Number 16909060) ≡ Bits 255 1 ∷ Bits 255 2 ∷ Bits 255 3 ∷ Bits 255 4 ∷ []
big_word = refl

little_half : scalar_bytes Little Two (Number 16909060) ≡ Bits 255 4 ∷ Bits 255 3 ∷ []
little_half = refl

-- an object of 4 bytes, and one of 8 that may not be written
abbrev four : ObjectName
four = record { place = 0; made = 5; size = 4 }

abbrev eight : ObjectName
eight = record { place = 1; made = 6; size = 8 }

abbrev objects : List Object
objects =
    record { made = 5; constant = false; bytes = Bits 255 1 ∷ Bits 255 2 ∷ Bits 0 0 ∷ Bits 240 48 ∷ [] }
    ∷ record { made = 6; constant = true; bytes = Part (Pointer four 4) 0 ∷ Part (Pointer four 4) 1 ∷ Part (Pointer four 4) 2 ∷ Part (Pointer four 4) 3 ∷ Part (Function 7) 0 ∷ Part (Function 7) 1 ∷ Part (Function 7) 3 ∷ Part (Function 7) 2 ∷ [] }
    ∷ []

abbrev short : Scalar
short = record { width = Two; signed = true }

abbrev int : Scalar
int = record { width = Four; signed = true }

reads_half : read Big short objects (Pointer four 0) ≡ Ok (Number 258)
reads_half = refl

reads_unknown : read Big short objects (Pointer four 2) ≡ Err cause.Unknown
reads_unknown = refl

-- an odd place that also lies outside is told as outside
reads_outside : read Big short objects (Pointer four 3) ≡ Err cause.Outside
reads_outside = refl

reads_odd : read Big short objects (Pointer four 1) ≡ Err cause.Misaligned
reads_odd = refl

reads_dead : read Big short objects (Pointer (record { place = 0; made = 4; size = 4 }) 0) ≡ Err cause.Dead
reads_dead = refl

reads_pointer : read Big int objects (Pointer eight 0) ≡ Ok (Pointer four 4)
reads_pointer = refl

-- its third and fourth byte are swapped
reads_swapped : read Big int objects (Pointer eight 4) ≡ Err cause.PointerBytes
reads_swapped = refl

reads_part : read Big short objects (Pointer eight 0) ≡ Err cause.PointerBytes
reads_part = refl

reads_number : read Big int objects (Number 0) ≡ Err cause.Outside
reads_number = refl

writes_constant : written Assignment Big Four (Number 3) objects (Pointer eight 0) ≡ Err cause.ReadOnly
writes_constant = refl

initialises_constant : written Initialisation Little Two (Number 515) (record { made = 6; constant = true; bytes = Bits 0 0 ∷ Bits 0 0 ∷ [] } ∷ []) (Pointer (record { place = 0; made = 6; size = 2 }) 0) ≡ Ok (record { made = 6; constant = true; bytes = Bits 255 3 ∷ Bits 255 2 ∷ [] } ∷ [])
initialises_constant = refl

-- the four highest bits of the last byte are known, the highest bits of a unit filled from the least
reads_field : field_read Little (record { first = 28; width = 4; signed = true }) objects (Pointer four 0) ≡ Ok (Number 3)
reads_field = refl

reads_unknown_field : field_read Little (record { first = 27; width = 4; signed = true }) objects (Pointer four 0) ≡ Err cause.Unknown
reads_unknown_field = refl

-- the first three bits 5, signed
signed_field : field_in Big (record { first = 0; width = 3; signed = true }) (Bits 255 160 ∷ Bits 0 0 ∷ Bits 0 0 ∷ Bits 0 0 ∷ []) ≡ Ok (Number 4294967293)
signed_field = refl

-- a field over two bytes, of which one was a pointer's
writes_field : with_field Big (record { first = 4; width = 8; signed = false }) 165 (Bits 255 255 ∷ Part (Function 7) 1 ∷ Bits 255 1 ∷ Bits 0 0 ∷ []) ≡ Bits 255 250 ∷ Bits 240 80 ∷ Bits 255 1 ∷ Bits 0 0 ∷ []
writes_field = refl

to_end : moved objects (Pointer four 0) (pos 4) ≡ Ok (Pointer four 4)
to_end = refl

past_end : moved objects (Pointer four 0) (pos 5) ≡ Err cause.PointerRange
past_end = refl

before_start : moved objects (Pointer four 3) (negsuc 3) ≡ Err cause.PointerRange
before_start = refl

one_past : compared objects (Pointer four 4) (Pointer eight 0) ≡ Err cause.PointerEqual
one_past = refl

apart : compared objects (Pointer four 3) (Pointer eight 0) ≡ Ok false
apart = refl

backward : subtracted objects 4 (Pointer eight 0) (Pointer eight 8) ≡ Ok (Number 4294967294)
unfolding int_wrap
backward = refl

no_multiple : subtracted objects 4 (Pointer eight 0) (Pointer eight 6) ≡ Err cause.PointerOrder
no_multiple = refl

-- elements without bytes, as of `struct { int : 0; }`, can't be counted
no_bytes : subtracted objects 0 (Pointer eight 4) (Pointer eight 4) ≡ Err cause.PointerOrder
no_bytes = refl

overlap : copied Assignment (record { made = 5; constant = false; bytes = Bits 255 1 ∷ Bits 255 2 ∷ Bits 0 0 ∷ [] } ∷ []) (Pointer (record { place = 0; made = 5; size = 3 }) 0) (Pointer (record { place = 0; made = 5; size = 3 }) 1) 2 1 ≡ Err cause.Overlap
overlap = refl

copies : copied Assignment (record { made = 5; constant = false; bytes = Bits 255 1 ∷ Bits 255 2 ∷ Bits 0 0 ∷ [] } ∷ []) (Pointer (record { place = 0; made = 5; size = 3 }) 2) (Pointer (record { place = 0; made = 5; size = 3 }) 0) 1 1 ≡ Ok (record { made = 5; constant = false; bytes = Bits 0 0 ∷ Bits 255 2 ∷ Bits 0 0 ∷ [] } ∷ [])
copies = refl
