-- The unit's own objects and texts live as long as a run of C: so the names of forests stand for them at any time.
use Rattle.std.specs.Prelude.{◌≡◌, ℕ, false, Some, slice_get}
use Rattle.objects.specs.declared.value.Value.{Value}
use Rattle.objects.specs.Causes.{is_dead}
use Rattle.c_meaning.specs.Units.{UnitTree}
use Rattle.c_runs.specs.Places.{place_of_object, place_of_text}
use Rattle.c_runs.specs.Soundness.{IsSound}
use Rattle.c_runs.specs.Worlds.{World, objects}
use Rattle.c_match.specs.Values.{StaysInside}

abbrev pub OwnObjectsLive : Type 0
OwnObjectsLive = (u : UnitTree) (w : World) (n : ℕ) (p : Value) → IsSound u w → place_of_object u n (slice_get u.objects n) ≡ Some p → (is_dead (objects w) p ≡ false) × StaysInside p

abbrev pub OwnTextsLive : Type 0
OwnTextsLive = (u : UnitTree) (w : World) (n : ℕ) (p : Value) → IsSound u w → place_of_text u n (slice_get u.texts n) ≡ Some p → (is_dead (objects w) p ≡ false) × StaysInside p
