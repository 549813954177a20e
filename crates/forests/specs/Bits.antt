-- Words bit by bit, where some bits aren't known. The bits of pointers and functions aren't known; labels have none.
-- Source: ISO/IEC 9899:1990, 6.3.3.3, 6.3.7, 6.3.10 to 6.3.12, on each bit; a bit of a result is known where the known
-- bits decide it.
use Rattle.std.specs.Prelude.{ℕ, ◌+◌, ◌-◌, ◌*◌, ◌/◌, ◌%◌, ◌^◌, nat_lt, bit_and, bit_or, bit_xor, Bool, false, Option, Some, None, if◌then◌else◌}
use Rattle.std.specs.Int.{int_shr}
use Rattle.objects.specs.declared.value.Value.TheVariants.{Number, Pointer, Function}
use Rattle.objects.specs.declared.operators.Unary.TheVariants.{Complement}
use Rattle.objects.specs.declared.operators.Binary.{Binary}
use Rattle.objects.specs.Arithmetic.{signed_of, word_of, unary_word, binary_word}
use Rattle.forests.specs.Words.{Word, Plain, Label, Partly, known_word}

-- which bits are known, and these bits, among 0 for the others
pub record KnownBits : Type 0 where
  pub known : ℕ
  pub value : ℕ

abbrev pub bits_of : Word → Option KnownBits
bits_of (Plain (Number n)) = Some (record { known = 2 ^ 32 - 1; value = n })
bits_of (Plain (Pointer object offset)) = Some (record { known = 0; value = 0 })
bits_of (Plain (Function f)) = Some (record { known = 0; value = 0 })
bits_of (Label f l) = None
bits_of (Partly mask bits) = Some (record { known = mask; value = bits })

-- the bits that are known to be 0
abbrev pub zeros : KnownBits → ℕ
zeros a = bit_xor a.known a.value

abbrev pub bits_and : KnownBits → KnownBits → KnownBits
bits_and a b = record { known = bit_or (bit_and a.known b.known) (bit_or (zeros a) (zeros b)); value = bit_and a.value b.value }

abbrev pub bits_or : KnownBits → KnownBits → KnownBits
bits_or a b = record { known = bit_or (bit_and a.known b.known) (bit_or a.value b.value); value = bit_or a.value b.value }

abbrev pub bits_xor : KnownBits → KnownBits → KnownBits
bits_xor a b = record { known = bit_and a.known b.known; value = bit_and (bit_xor a.value b.value) (bit_and a.known b.known) }

abbrev pub bits_complement : KnownBits → KnownBits
bits_complement a = record { known = a.known; value = zeros a }

-- zeros come in from below
abbrev pub bits_left : ℕ → KnownBits → KnownBits
bits_left count a = record { known = (a.known * 2 ^ count + (2 ^ count - 1)) % 2 ^ 32; value = (a.value * 2 ^ count) % 2 ^ 32 }

-- zeros come in from above
abbrev pub bits_right : ℕ → KnownBits → KnownBits
bits_right count a = record { known = a.known / 2 ^ count + (2 ^ 32 - 2 ^ (32 - count)); value = a.value / 2 ^ count }

-- the highest bit comes in from above, known or not
abbrev pub bits_right_signed : ℕ → KnownBits → KnownBits
bits_right_signed count a = record { known = word_of (int_shr (signed_of a.known) count); value = word_of (int_shr (signed_of a.value) count) }

abbrev pub word_of_bits : KnownBits → Word
word_of_bits a = known_word a.known a.value

abbrev pub by_bits : (KnownBits → KnownBits) → Option KnownBits → Option Word
by_bits f None = None
by_bits f (Some a) = Some (word_of_bits (f a))

abbrev pub by_bits_of_two : (KnownBits → KnownBits → KnownBits) → Option KnownBits → Option KnownBits → Option Word
by_bits_of_two f (Some a) (Some b) = Some (word_of_bits (f a b))
by_bits_of_two f a b = None

-- the complement of a word
abbrev pub complemented : Word → Option Word
complemented (Plain (Number x)) = Some (Plain (Number (unary_word Complement x)))
complemented w = by_bits bits_complement (bits_of w)

-- an operation on the bits of two words, given what it is on numbers and on known bits
abbrev pub bitwise : Binary → (KnownBits → KnownBits → KnownBits) → Word → Word → Option Word
bitwise op f (Plain (Number x)) (Plain (Number y)) = Some (Plain (Number (binary_word false op x y)))
bitwise op f v w = by_bits_of_two f (bits_of v) (bits_of w)

abbrev pub shifted_by : Bool → Binary → (ℕ → KnownBits → KnownBits) → ℕ → Word → Option Word
shifted_by signed op f count (Plain (Number x)) = Some (Plain (Number (binary_word signed op x count)))
shifted_by signed op f count w = by_bits (f count) (bits_of w)

-- a shift by a count that is known; counts are from 0 to 31
abbrev pub shifted : Bool → Binary → (ℕ → KnownBits → KnownBits) → Word → Word → Option Word
shifted signed op f w (Plain (Number count)) = if nat_lt 31 count then None else shifted_by signed op f count w
shifted signed op f w count = None
