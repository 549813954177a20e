-- Comparisons: what a machine finds of two numbers is what forests find of their words.
-- Source: ISO/IEC 9899:1990, 6.3.8, 6.3.9.
use Rattle.std.specs.Prelude.{◌≡◌, ◌<◌, ◌⊎◌, ℕ, ◌+◌, Bool, true, false, List, Some, length, slice_get}
use Rattle.objects.specs.declared.operators.Comparison.{Comparison}
use Rattle.objects.specs.declared.operators.Comparison.TheVariants.{Equal}
use Rattle.objects.specs.declared.value.Value.TheVariants.{Number, Pointer, Function}
use Rattle.objects.specs.Arithmetic.{holds}
use Rattle.forests.specs.Words.{Word, Plain, Label, Partly}
use Rattle.forests.specs.Objects.{Object}
use Rattle.forests.specs.Numbers.{equal, signed_are, unsigned_are}
use Rattle.memory_map.specs.Maps.{Map, IsWord}
use Rattle.memory_map.specs.Lies.{IsLaid}

-- Functions of these names have addresses of their own, other than 0, and none is in an object that lives or just behind one.
pub record AreApart (map : Map) (objects : List Object) (functions : ℕ → Bool) : Type 0 where
  pub one : (f g : ℕ) → functions f ≡ true → functions g ≡ true → map.function f ≡ map.function g
      → f ≡ g
  pub some : (f : ℕ) → functions f ≡ true → 0 < map.function f
  pub off : (f o a : ℕ) (x : Object) → functions f ≡ true → slice_get objects o ≡ Some x
      → map.object x.made ≡ Some a → (map.function f < a) ⊎ (a + length x.bytes < map.function f)

-- a word that is a function is one of these
abbrev pub IsAmong : (ℕ → Bool) → Word → Type 0
IsAmong functions (Plain (Number n)) = Unit {0}
IsAmong functions (Plain (Pointer object offset)) = Unit {0}
IsAmong functions (Plain (Function f)) = functions f ≡ true
IsAmong functions (Label f l) = Unit {0}
IsAmong functions (Partly mask bits) = Unit {0}

abbrev pub EqualityIs : Type 0
EqualityIs =
    (map : Map) (floor made : ℕ) (objects : List Object) (functions : ℕ → Bool) (v w : Word)
    (x y : ℕ) (b : Bool)
    → IsLaid map floor made objects → AreApart map objects functions → IsAmong functions v
    → IsAmong functions w
    → IsWord map v x → IsWord map w y → equal objects v w ≡ Some b → holds false Equal x y ≡ b

abbrev pub SignedAreSo : Type 0
SignedAreSo =
    (map : Map) (op : Comparison) (v w : Word) (x y : ℕ) (b : Bool)
    → IsWord map v x → IsWord map w y → signed_are op v w ≡ Some b → holds true op x y ≡ b

abbrev pub UnsignedAreSo : Type 0
UnsignedAreSo =
    (map : Map) (floor made : ℕ) (objects : List Object) (op : Comparison) (v w : Word) (x y : ℕ)
    (b : Bool)
    → IsLaid map floor made objects → IsWord map v x → IsWord map w y
    → unsigned_are objects op v w ≡ Some b → holds false op x y ≡ b
