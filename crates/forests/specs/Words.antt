-- Values of a forest, which are words of 32 bits: a value of C's objects; a label of a function; or a word whose bits
-- aren't all known.
-- Source: ISO/IEC 9899:1990, 6.1.2.5; Fraser and Hanson, A Retargetable C Compiler, chapter 5 (labels as addresses).
use Rattle.std.specs.Prelude.{◌≡◌, ◌<◌, ℕ, ℤ, pos, ◌-◌, ◌%◌, ◌^◌, ◌==◌, ◌&&◌, Bool, false, bit_and, Option, Some, None, if◌then◌else◌}
use Rattle.std.specs.Int.{int_rem_euclid}
use Rattle.std.specs.Int.RustNames.{unsigned_abs}
use Rattle.objects.specs.declared.value.Value.{Value}
use Rattle.objects.specs.declared.value.Value.TheVariants.{Number, Pointer, Function}
use Rattle.objects.specs.Values.{same_whole}

-- A number, pointer or function of C; a label of a function, which is told by its name; or a word of which the bits of
-- the mask are known, and the others are 0 here.
pub data Word : Type 0 where
  Plain : (value : Value) → Word
  Label : (function label : ℕ) → Word
  Partly : (mask bits : ℕ) → Word

-- the word of which nothing is known
abbrev pub unknown : Word
unknown = Partly 0 0

-- the word with these known bits: a number, where all are known
abbrev pub known_word : ℕ → ℕ → Word
known_word mask bits = if mask == 2 ^ 32 - 1 then Plain (Number bits) else Partly mask bits

-- a number modulo 2^32, a negative one in two's complement
abbrev pub number_of : ℤ → ℕ
number_of z = unsigned_abs (int_rem_euclid z (pos (2 ^ 32)))

-- so many low bits of a number, as a char or a short has them; the bits above aren't known
abbrev pub narrow : ℕ → ℕ → Word
narrow bits n = Partly (2 ^ bits - 1) (n % 2 ^ bits)

-- the number of so many low bits of a word, where these are known
abbrev pub low_number : ℕ → Word → Option ℕ
low_number bits (Plain (Number n)) = Some (n % 2 ^ bits)
low_number bits (Plain (Pointer object offset)) = None
low_number bits (Plain (Function f)) = None
low_number bits (Label f l) = None
low_number bits (Partly mask value) = if mask % 2 ^ bits == 2 ^ bits - 1 then Some (value % 2 ^ bits) else None

-- the same pointer, function or label
abbrev pub same_word : Word → Word → Bool
same_word (Plain v) (Plain w) = same_whole v w
same_word (Label f l) (Label g m) = (f == g) && (l == m)
same_word v w = false

-- A word has 32 bits: those that are known are among its mask's, which isn't full.
abbrev pub IsWord : Word → Type 0
IsWord (Plain (Number n)) = n < 2 ^ 32
IsWord (Plain (Pointer object offset)) = Unit {0}
IsWord (Plain (Function f)) = Unit {0}
IsWord (Label f l) = Unit {0}
IsWord (Partly mask bits) = (mask < 2 ^ 32 - 1) × (bit_and bits mask ≡ bits)
