-- Which bytes of forests' objects stand for bytes of C's. What C doesn't know may be anything but a byte of a label: a bit operation
-- on a label has no meaning, while C defines the store of a bit-field in a unit of which nothing is known.
use Rattle.std.specs.Prelude.{◌≡◌, bit_and, List, [], ◌∷◌}
use Rattle.objects.specs.declared.byte.Byte.{Byte}
use Rattle.objects.specs.declared.byte.Byte.TheVariants.{Bits, Part}
use Rattle.objects.specs.declared.value.Value.{Value}
use Rattle.forests.specs.Words.{Word, Plain, Label, Partly}
use Rattle.c_match.specs.Ranges.{Map}
use Rattle.c_match.specs.Values.{IsValue}

abbrev pub IsNoLabel : Word → Type 0
IsNoLabel (Plain v) = Unit {0}
IsNoLabel (Label f l) = ⊥
IsNoLabel (Partly mask bits) = Unit {0}

-- Each bit that C knows is known, and the same; what C knows nothing of may be a byte of a pointer or function. And a byte of a pointer
-- or function is the byte at its place of the word that stands for it.
abbrev pub IsByteOf : Map → Byte Value → Byte Word → Type 0
IsByteOf map (Bits known value) (Bits mask bits) = (bit_and known mask ≡ known) × (bit_and bits known ≡ value)
IsByteOf map (Bits known value) (Part w place) = (known ≡ 0) × (value ≡ 0) × IsNoLabel w
IsByteOf map (Part v place) (Part w k) = IsValue map v w × (place ≡ k)
IsByteOf map (Part v place) (Bits mask bits) = ⊥

-- one byte for each, in order; others may stand behind
abbrev pub AreBytesOf : Map → List (Byte Value) → List (Byte Word) → Type 0
AreBytesOf map [] cs = Unit {0}
AreBytesOf map (b ∷ bs) [] = ⊥
AreBytesOf map (b ∷ bs) (c ∷ cs) = IsByteOf map b c × AreBytesOf map bs cs
