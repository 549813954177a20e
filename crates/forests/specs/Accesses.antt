-- Reads and writes of words, of narrower numbers and of blocks, through pointers. Where C's access is undefined, by its
-- place, alignment, lifetime or constancy, there is none.
-- Source: ISO/IEC 9899:1990, 6.3, 6.3.3.2, 6.3.16, in the profile of this compiler.
use Rattle.std.specs.Prelude.{ℕ, List, [], ◌∷◌, Option, Some, None, Result, Ok, Err}
use Rattle.lcc_base.specs.declared.order.Order.{Order}
use Rattle.lcc_base.specs.declared.cause.Cause.{Cause}
use Rattle.lcc_base.specs.declared.cause.Cause.TheVariants.{Unknown, PointerBytes}
use Rattle.objects.specs.declared.byte.Byte.{Byte}
use Rattle.objects.specs.declared.purpose.Purpose.TheVariants.{Assignment}
use Rattle.objects.specs.declared.width.Width.{Width}
use Rattle.objects.specs.Values.{bytes_in, bits_in}
use Rattle.objects.specs.Bytes.{has_parts, known_bytes, number_bytes, number_of_bytes}
use Rattle.objects.specs.Causes.{first_cause, unless, is_unknown}
use Rattle.objects.specs.Accesses.{read_cause, write_cause}
use Rattle.objects.specs.Copies.{copy_cause, or_cause}
use Rattle.forests.specs.Words.{Word, Plain, narrow, low_number}
use Rattle.forests.specs.WordBytes.{word_bytes, word_in}
use Rattle.forests.specs.Objects.{Object, shapes, bytes_through, stored_through}

-- what C defines
abbrev pub defined : {A : Type 0} → Result A Cause → Option A
defined (Ok a) = Some a
defined (Err c) = None

-- the word at a place
abbrev pub word_read : Order → List Object → Word → Option Word
word_read order objects (Plain p) = defined (unless (read_cause (shapes objects) p 4 4) (word_in order (bytes_through objects p 4)))
word_read order objects w = None

-- why bytes are no number
abbrev pub number_cause : List (Byte Word) → Option Cause
number_cause bytes = first_cause ((is_unknown bytes, Unknown) ∷ (has_parts bytes, PointerBytes) ∷ [])

-- the number of one or two bytes at a place, all of whose bits are known
abbrev pub number_read : Order → Width → List Object → Word → Option Word
number_read order width objects (Plain p) =
    defined
    (unless (or_cause (read_cause (shapes objects) p (bytes_in width) (bytes_in width)) (number_cause (bytes_through objects p (bytes_in width))))
    (narrow (bits_in width) (number_of_bytes order (bytes_through objects p (bytes_in width)))))
number_read order width objects w = None

-- the objects once these bytes are written, as a scalar of so many
abbrev pub bytes_written : ℕ → List (Byte Word) → List Object → Word → Option (List Object)
bytes_written size bytes objects (Plain p) = defined (unless (write_cause Assignment (shapes objects) p size size) (stored_through objects p bytes))
bytes_written size bytes objects w = None

-- the objects once a word is written
abbrev pub word_written : Order → Word → List Object → Word → Option (List Object)
word_written order w objects p = bytes_written 4 (word_bytes order w) objects p

abbrev pub number_written_by : Option ℕ → Order → Width → List Object → Word → Option (List Object)
number_written_by None order width objects p = None
number_written_by (Some n) order width objects p = bytes_written (bytes_in width) (known_bytes (number_bytes order (bytes_in width) n)) objects p

-- the objects once the low bits of a word are written, which have to be known
abbrev pub number_written : Order → Width → Word → List Object → Word → Option (List Object)
number_written order width w objects p = number_written_by (low_number (bits_in width) w) order width objects p

-- the objects once a block of this size and alignment is copied
abbrev pub block_copied : ℕ → ℕ → List Object → Word → Word → Option (List Object)
block_copied size alignment objects (Plain from) (Plain to) =
    defined (unless (copy_cause Assignment (shapes objects) from to size alignment) (stored_through objects to (bytes_through objects from size)))
block_copied size alignment objects from to = None
