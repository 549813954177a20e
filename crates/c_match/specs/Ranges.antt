-- Where the objects of a run of C stand in a run of forests: each in a part of one object there.
use Rattle.std.specs.Prelude.{◌≡◌, ◌≤◌, ◌⊎◌, ℕ, ◌+◌, ◌==◌, Option, Some, if◌then◌else◌}
use Rattle.objects.specs.declared.value.ObjectName.{ObjectName}

-- the bytes of an object of forests from a place in it on
pub record Range : Type 0 where
  pub object : ObjectName
  pub start : ℕ

-- The range of each object of C that was made, by how many objects were made before it, which tells it from all others. One that is
-- past its lifetime keeps its range.
abbrev pub Map : Type 0
Map = ℕ → Option Range

-- further objects have ranges
abbrev pub Grown : Map → Map → Type 0
Grown map more = (m : ℕ) (r : Range) → map m ≡ Some r → more m ≡ Some r

-- a range for one object more
abbrev pub with_range : ℕ → Range → Map → Map
with_range made r map = λ m. if m == made then Some r else map m

-- so many bytes from the start of one range on and so many from the start of another have none in common
abbrev pub AreApart : Range → ℕ → Range → ℕ → Type 0
AreApart r m s n = r.object.place ≡ s.object.place → (r.start + m ≤ s.start) ⊎ (s.start + n ≤ r.start)
