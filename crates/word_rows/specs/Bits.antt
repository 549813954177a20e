-- Operations on bits, and shifts by counts from 0 to 31, also of words of which some bits aren't known.
-- Source: ISO/IEC 9899:1990, 6.3.3.3, 6.3.7, 6.3.10 to 6.3.12.
use Rattle.std.specs.Prelude.{◌≡◌, ◌<◌, ℕ, ◌^◌, Bool, true, false, Some}
use Rattle.objects.specs.declared.operators.Unary.TheVariants.{Complement}
use Rattle.objects.specs.declared.operators.Binary.{Binary}
use Rattle.objects.specs.declared.operators.Binary.TheVariants.{And, Or, Xor, ShiftLeft, ShiftRight}
use Rattle.objects.specs.Arithmetic.{unary_word, binary_word}
use Rattle.forests.specs.Words.{Word}
use Rattle.forests.specs.Words.{IsWord as HasBits}
use Rattle.forests.specs.Bits.{KnownBits, bits_and, bits_or, bits_xor, bits_left, bits_right, bits_right_signed, complemented, bitwise, shifted}
use Rattle.memory_map.specs.Maps.{Map, IsWord}

-- an operation on the bits of two words
abbrev pub IsBitwise : Binary → (KnownBits → KnownBits → KnownBits) → Type 0
IsBitwise op f =
    (map : Map) (v w u : Word) (x y : ℕ)
    → x < 2 ^ 32 → y < 2 ^ 32 → IsWord map v x → IsWord map w y → bitwise op f v w ≡ Some u
    → IsWord map u (binary_word false op x y)

abbrev pub AndIsSo : Type 0
AndIsSo = IsBitwise And bits_and

abbrev pub OrIsSo : Type 0
OrIsSo = IsBitwise Or bits_or

abbrev pub XorIsSo : Type 0
XorIsSo = IsBitwise Xor bits_xor

abbrev pub ComplementIsSo : Type 0
ComplementIsSo =
    (map : Map) (w u : Word) (x : ℕ) → HasBits w → x < 2 ^ 32 → IsWord map w x
    → complemented w ≡ Some u → IsWord map u (unary_word Complement x)

-- a shift of a word
abbrev pub IsShift : Bool → Binary → (ℕ → KnownBits → KnownBits) → Type 0
IsShift signed op f =
    (map : Map) (w c u : Word) (x y : ℕ)
    → HasBits w → x < 2 ^ 32 → IsWord map w x → IsWord map c y → shifted signed op f w c ≡ Some u
    → (y < 32) × IsWord map u (binary_word signed op x y)

abbrev pub LeftShiftsAreSo : Type 0
LeftShiftsAreSo = (signed : Bool) → IsShift signed ShiftLeft bits_left

abbrev pub RightShiftsAreSo : Type 0
RightShiftsAreSo = IsShift false ShiftRight bits_right

abbrev pub SignedRightShiftsAreSo : Type 0
SignedRightShiftsAreSo = IsShift true ShiftRight bits_right_signed
