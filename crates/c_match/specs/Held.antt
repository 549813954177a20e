-- When the objects of a run of forests hold those of a run of C.
use Rattle.std.specs.Prelude.{◌≡◌, ◌≤◌, ◌⊎◌, ℕ, ◌+◌, ◌*◌, false, Some, List, length, drop, slice_get}
use Rattle.objects.specs.declared.purpose.Purpose.{Purpose}
use Rattle.objects.specs.declared.purpose.Purpose.TheVariants.{Assignment, Initialisation}
use Rattle.objects.specs.declared.value.Value.{Value}
use Rattle.objects.specs.declared.value.Value.TheVariants.{Number, Pointer, Function}
use Rattle.objects.specs.Objects as c
use Rattle.forests.specs.Objects.{Object}
use Rattle.c_match.specs.Ranges.{Range, Map, AreApart}
use Rattle.c_match.specs.Bytes.{AreBytesOf}

-- A living object of C is held by a living object of forests, its home: in its range, which lies in the home from a multiple of 4 on,
-- stand its bytes. The home may be written where the object may.
pub record IsHeldIn (map : Map) (x : c.Object) (objects : List Object) (range : Range) : Type 0 where
  pub home : Object
  pub there : slice_get objects range.object.place ≡ Some home
  pub made : home.made ≡ range.object.made
  pub size : length home.bytes ≡ range.object.size
  pub words : ℕ
  pub start : range.start ≡ 4 * words
  pub inside : range.start + length x.bytes ≤ range.object.size
  pub bytes : AreBytesOf map x.bytes (drop range.start home.bytes)
  pub writable : x.constant ≡ false → home.constant ≡ false

pub record IsHeld (map : Map) (x : c.Object) (objects : List Object) : Type 0 where
  pub range : Range
  pub is : map x.made ≡ Some range
  pub held : IsHeldIn map x objects range

-- each living object of C is held, and no byte holds bytes of two
pub record AreHeld (map : Map) (old : List c.Object) (objects : List Object) : Type 0 where
  pub held : (p : ℕ) (x : c.Object) → slice_get old p ≡ Some x → IsHeld map x objects
  pub apart : (p q : ℕ) (x y : c.Object) (r s : Range) → slice_get old p ≡ Some x → slice_get old q ≡ Some y → (p ≡ q → ⊥) → map x.made ≡ Some r → map y.made ≡ Some s → AreApart r (length x.bytes) s (length y.bytes)

-- An initialiser's own store goes into const objects of C too. Forests know no such store: it needs a home that may be written.
abbrev pub IsOpenTo : Purpose → Map → List Object → Value → Type 0
IsOpenTo Assignment map objects p = Unit {0}
IsOpenTo Initialisation map objects (Pointer object offset) = (r : Range) (home : Object) → map object.made ≡ Some r → slice_get objects r.object.place ≡ Some home → home.constant ≡ false
IsOpenTo Initialisation map objects (Number n) = Unit {0}
IsOpenTo Initialisation map objects (Function f) = Unit {0}

-- how C's accesses are aligned
abbrev pub IsAlignment : ℕ → Type 0
IsAlignment n = (n ≡ 1) ⊎ ((n ≡ 2) ⊎ (n ≡ 4))
