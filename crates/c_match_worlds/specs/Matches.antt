-- When a world of forests stands for one of C.
use Rattle.std.specs.Prelude.{◌≡◌, ◌≤◌, ◌<◌, ℕ, true, Some, flat_map, slice_get}
use Rattle.objects.specs.declared.value.ObjectName.{ObjectName}
use Rattle.op_forest.specs.declared.lowered.LoweredObject.{LoweredObject}
use Rattle.op_forest.specs.Lowered.{LoweredUnit}
use Rattle.forests.specs.Objects.{Object}
use Rattle.forests.specs.Sound.{IsSound}
use Rattle.forests.specs.Units.{size_by, bytes_in}
use Rattle.forests.specs.Worlds.{World}
use Rattle.c_runs.specs.Worlds as c
use Rattle.c_match.specs.Ranges.{Range, Map}
use Rattle.c_match.specs.Held.{AreHeld}
use Rattle.c_match.specs.Left.{IsPrivate}

-- the name of a unit's object in a run of forests, by its place in the unit, and the object as the run begins with it
abbrev pub name_in : LoweredUnit → ℕ → ObjectName
name_in u place = record { place = place; made = place; size = size_by (slice_get u.objects place) }

abbrev pub object_in : LoweredUnit → ℕ → LoweredObject → Object
object_in u place o = record { made = place; constant = o.constant; bytes = flat_map (bytes_in u) o.items }

-- The unit's own objects and texts, so many, are the first objects of both worlds, each of C's the whole of its home, and those that may not
-- be written are as the run began with them; so are tables, which stand behind them in the unit, and hold nothing of C. Each object of C that was made may have a range, none that
-- wasn't. The same input is left, and the same was seen.
pub record Matches (u : LoweredUnit) (own : ℕ) (map : Map) (old : c.World) (w : World) : Type 0 where
  pub held : AreHeld map (c.objects old) w.objects
  pub made : (m : ℕ) (r : Range) → map m ≡ Some r → m < old.storage.made
  pub whole : (p : ℕ) → p < own → map p ≡ Some (record { object = name_in u p; start = 0 })
  pub constants : (t : ℕ) (o : LoweredObject) → t < own → slice_get u.objects t ≡ Some o → o.constant ≡ true → slice_get w.objects t ≡ Some (object_in u t o)
  pub tables : (t : ℕ) (o : LoweredObject) → own ≤ t → slice_get u.objects t ≡ Some o → (slice_get w.objects t ≡ Some (object_in u t o)) × IsPrivate map (c.objects old) t
  pub input : w.input ≡ old.input
  pub trace : w.trace ≡ old.trace
  pub sound : IsSound w
