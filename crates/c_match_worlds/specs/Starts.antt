-- When the worlds with which two runs begin match.
-- Source: ISO/IEC 9899:1990, 6.1.4 and 6.5.7 (string literals, initialization).
use Rattle.std.specs.Prelude.{◌≡◌, ℕ, nat_lt, false, Some, None, List, [], length, slice_get, flat_map, if◌then◌else◌}
use Rattle.objects.specs.Objects.{Object as Old}
use Rattle.op_forest.specs.declared.lowered.LoweredObject.{LoweredObject}
use Rattle.op_forest.specs.Lowered.{LoweredUnit}
use Rattle.forests.specs.Sound.{IsSound}
use Rattle.forests.specs.Units.{bytes_in, start_world}
use Rattle.c_runs.specs.Worlds as c
use Rattle.c_match.specs.Ranges.{Range, Map}
use Rattle.c_match.specs.Bytes.{AreBytesOf}
use Rattle.c_match_worlds.specs.Matches.{Matches, name_in}

-- the ranges with which a run begins: the first objects, so many, of the unit stand whole in those of their places
abbrev pub own_range : LoweredUnit → ℕ → Range
own_range u place = record { object = name_in u place; start = 0 }

abbrev pub own_map : LoweredUnit → ℕ → Map
own_map u own = λ m. if nat_lt m own then Some (own_range u m) else None

-- C's object is the first of its unit's objects and texts that was made, and so on; the object of its place in the lowered unit has its bytes,
-- and may be written where it may.
pub record StandsAt (u : LoweredUnit) (map : Map) (place : ℕ) (x : Old) : Type 0 where
  pub home : LoweredObject
  pub there : slice_get u.objects place ≡ Some home
  pub made : x.made ≡ place
  pub whole : length (flat_map (bytes_in u) home.items) ≡ home.size
  pub size : length x.bytes ≡ home.size
  pub bytes : AreBytesOf map x.bytes (flat_map (bytes_in u) home.items)
  pub writable : x.constant ≡ false → home.constant ≡ false

-- A run of C that has made just its unit's objects and texts, and one of forests that begins, match.
abbrev pub StartsMatch : Type 0
StartsMatch =
    (u : LoweredUnit) (old : c.World) (input : List ℕ)
    → ((p : ℕ) (x : Old) → slice_get (c.objects old) p ≡ Some x → StandsAt u (own_map u (length (c.objects old))) p x)
    → old.storage.made ≡ length (c.objects old) → old.input ≡ input → old.trace ≡ [] → IsSound (start_world u input)
    → Matches u (length (c.objects old)) (own_map u (length (c.objects old))) old (start_world u input)
