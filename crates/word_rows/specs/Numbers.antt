-- Arithmetic, conversions and constants: where the operands' words are these numbers of a machine, the result's word is the
-- number that the machine computes.
-- Source: ISO/IEC 9899:1990, 6.2.1.2, 6.3.3.3 and 6.3.5 to 6.3.7.
use Rattle.std.specs.Prelude.{◌≡◌, ℕ, ℤ, ◌%◌, ◌^◌, Bool, Some, None}
use Rattle.objects.specs.declared.operators.Unary.{Unary}
use Rattle.objects.specs.declared.operators.Binary.{Binary}
use Rattle.objects.specs.Arithmetic.{unary_word, binary_word, word_cause}
use Rattle.objects.specs.Conversions.{extended}
use Rattle.forests.specs.Words.{Word, number_of}
use Rattle.forests.specs.Numbers.{constant, narrow_constant, widened, narrowed, of_one, of_two}
use Rattle.memory_map.specs.Maps.{Map, IsWord}

abbrev pub OneIsSo : Type 0
OneIsSo =
    (map : Map) (op : Unary) (v u : Word) (x : ℕ) → IsWord map v x → of_one op v ≡ Some u
    → IsWord map u (unary_word op x)

-- no division by 0, no quotient that doesn't fit, no count above 31
abbrev pub TwoAreSo : Type 0
TwoAreSo =
    (map : Map) (signed : Bool) (op : Binary) (v w u : Word) (x y : ℕ)
    → IsWord map v x → IsWord map w y → of_two signed op v w ≡ Some u
    → (word_cause signed op x y ≡ None) × IsWord map u (binary_word signed op x y)

-- the low bits extended
abbrev pub LowAreWidened : Type 0
LowAreWidened =
    (map : Map) (signed : Bool) (bits : ℕ) (w u : Word) (n : ℕ)
    → IsWord map w n → widened signed bits w ≡ Some u → IsWord map u (extended signed bits n)

-- of a narrower number any bits may stand above
abbrev pub LowAreKept : Type 0
LowAreKept =
    (map : Map) (bits : ℕ) (w u : Word) (n m : ℕ)
    → IsWord map w n → narrowed bits w ≡ Some u → m % 2 ^ bits ≡ n % 2 ^ bits → IsWord map u m

abbrev pub ConstantsAre : Type 0
ConstantsAre =
    (map : Map) (z : ℤ) (u : Word) → constant (Some z) ≡ Some u → IsWord map u (number_of z)

abbrev pub NarrowConstantsAre : Type 0
NarrowConstantsAre =
    (map : Map) (bits : ℕ) (z : ℤ) (u : Word) (m : ℕ)
    → narrow_constant bits (Some z) ≡ Some u → m % 2 ^ bits ≡ number_of z % 2 ^ bits
    → IsWord map u m
