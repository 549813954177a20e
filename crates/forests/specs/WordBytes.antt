-- The bytes of words in memory. They are the bytes of C's objects, over words in place of C's values: so a label has
-- bytes too, as a pointer has.
-- Source: ISO/IEC 9899:1990, 6.1.2.5 (representation of types), as a memory of objects.
use Rattle.std.specs.Prelude.{ℕ, List, [], ◌∷◌, map, Option, Some, None}
use Rattle.lcc_base.specs.declared.order.Order.{Order}
use Rattle.lcc_base.specs.NumberIn.{number_in}
use Rattle.objects.specs.declared.byte.Byte.{Byte}
use Rattle.objects.specs.declared.byte.Byte.TheVariants.{Bits}
use Rattle.objects.specs.declared.value.Value.TheVariants.{Number, Pointer, Function}
use Rattle.objects.specs.Bytes.{known_bytes, known_of, value_of, number_bytes, part_bytes, by_weight, whole_of}
use Rattle.forests.specs.Words.{Word, Plain, Label, Partly, known_word, same_word}

-- bytes of these known bits
abbrev pub partly_bytes : List ℕ → List ℕ → List (Byte Word)
partly_bytes (k ∷ ks) (v ∷ vs) = Bits k v ∷ partly_bytes ks vs
partly_bytes ks vs = []

-- the four bytes of a word in memory
abbrev pub word_bytes : Order → Word → List (Byte Word)
word_bytes order (Plain (Number n)) = known_bytes (number_bytes order 4 n)
word_bytes order (Plain (Pointer object offset)) = part_bytes order (Plain (Pointer object offset))
word_bytes order (Plain (Function f)) = part_bytes order (Plain (Function f))
word_bytes order (Label f l) = part_bytes order (Label f l)
word_bytes order (Partly mask bits) = partly_bytes (number_bytes order 4 mask) (number_bytes order 4 bits)

abbrev pub whole_or : Option Word → Word → Word
whole_or (Some w) other = w
whole_or None other = other

-- The word that four bytes are: the pointer, function or label all of whose bytes they are, else the word of their
-- bits. A single byte of a pointer, function or label has bits that aren't known.
abbrev pub word_in : Order → List (Byte Word) → Word
word_in order bytes =
    whole_or (whole_of same_word (by_weight order bytes)) (known_word (number_in order (map known_of bytes)) (number_in order (map value_of bytes)))
