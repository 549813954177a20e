-- Laws of initial data: what a run of forests begins with stands for what the run of C begins with.
use Rattle.std.specs.Prelude.{◌≡◌, ◌<◌, ℕ, ◌+◌, true, Some, List, [], ◌++◌, length, slice_get}
use Rattle.lcc_base.specs.declared.order.Order.{Order}
use Rattle.objects.specs.declared.value.Value.TheVariants.{Function}
use Rattle.objects.specs.Objects.{Object}
use Rattle.op_forest.specs.declared.lowered.LoweredObject.{LoweredObject}
use Rattle.op_forest.specs.Lowered.{LoweredUnit}
use Rattle.forests.specs.Units.{pointer_to, value_of}
use Rattle.c_meaning.specs.Units.{UnitTree, CoreUnit, IsWhole, unit_seen}
use Rattle.c_runs.specs.Calls.{Call}
use Rattle.c_runs.specs.Outcomes.{Result, Next}
use Rattle.c_runs.specs.Run.{setting, started}
use Rattle.c_runs.specs.Soundness.{IsSound}
use Rattle.c_runs.specs.Worlds.{World, objects}
use Rattle.c_match_worlds.specs.Starts.{own_map, StandsAt}
use Rattle.c_match_worlds.specs.Texts.{HasTexts}
use Rattle.lowered_data.specs.Data.{IsFunctionNumber}
use Rattle.lowered_data.specs.Initial.{IsInitialData, StartsIn}
use Rattle.lowered_data.specs.Still.{are_still_objects}

-- In a lowered unit the number of each function of C's unit, and of each built-in one that this doesn't define, is its name; so many
-- objects are named behind the functions, in order.
pub record NamesStand (u : UnitTree) (own : ℕ) (l : LoweredUnit) : Type 0 where
  pub functions : (f : ℕ) → IsFunctionNumber u f → value_of l f ≡ Some (Function f)
  pub objects : (place : ℕ) → place < own → value_of l (length u.functions + place) ≡ Some (pointer_to l place)

-- Each object that lives at the start stands in the lowered unit whose first objects are the initial data.
abbrev pub DataStand : Type 0
DataStand =
    (u : UnitTree) (order : Order) (data_of behind : List LoweredObject) (d : IsInitialData u order data_of) (l : LoweredUnit)
    → l.objects ≡ data_of ++ behind → l.order ≡ order → NamesStand u (length (objects d.world)) l → (place : ℕ) (x : Object)
    → slice_get (objects d.world) place ≡ Some x → StandsAt l (own_map l (length (objects d.world))) place x

-- So do the unit's texts, as the objects behind those of its own objects.
abbrev pub TextsStand : Type 0
TextsStand = (u : UnitTree) (order : Order) (data_of behind : List LoweredObject) → IsInitialData u order data_of → (l : LoweredUnit) → l.objects ≡ data_of ++ behind → HasTexts l (length u.objects) u.texts

-- Where no initialiser calls or changes anything, the world in which a unit starts with no input is that in which it starts with any; and just
-- its objects and texts were made.
abbrev pub StartStandsAlone : Type 0
StartStandsAlone =
    (u : CoreUnit) (order : Order) (w : World) → are_still_objects u.objects ≡ true
    → ((calls : ℕ → Call → Result) (k : ℕ) → started (setting (unit_seen u) order calls) [] k ≡ Next k w)
    → StartsIn (unit_seen u) order w × (w.storage.made ≡ length (unit_seen u).objects + length (unit_seen u).texts)

-- and it is sound
abbrev pub StartIsSound : Type 0
StartIsSound =
    (u : CoreUnit) (order : Order) (w : World) → IsWhole u → are_still_objects u.objects ≡ true
    → ((calls : ℕ → Call → Result) (k : ℕ) → started (setting (unit_seen u) order calls) [] k ≡ Next k w) → IsSound (unit_seen u) w
