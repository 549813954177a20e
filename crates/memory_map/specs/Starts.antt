-- The start of a program: the unit's objects lie among its data, and behind them, on the stack, the null pointer to which
-- main's second argument points.
-- Source: ISO/IEC 9899:1990, 5.1.2.2.1 (main), 6.5.7 (initialization).
use Rattle.std.specs.Prelude.{◌≡◌, ◌≤◌, ◌<◌, ℕ, zero, suc, ◌+◌, ◌%◌, ◌^◌, List, [], ◌∷◌, Option, Some, length}
use Rattle.objects.specs.declared.value.Value.TheVariants.{Pointer}
use Rattle.op_forest.specs.Lowered.{LoweredUnit}
use Rattle.forests.specs.Words.{Plain}
use Rattle.forests.specs.Objects.{Object}
use Rattle.forests.specs.Units.{objects_in, null_name, main_world}
use Rattle.memory_map.specs.Maps.{Map, IsWord}
use Rattle.memory_map.specs.Lies.{Lies, extended, AreNumbered, StandAll}
use Rattle.memory_map.specs.Frames.{data_places, EndBy, bare_map}

abbrev pub unit_objects : LoweredUnit → List Object
unit_objects u = objects_in u 0 u.objects

-- the map of a unit's objects from an address on
abbrev pub unit_map : (ℕ → ℕ) → (ℕ → ℕ → ℕ) → LoweredUnit → ℕ → Map
unit_map functions labels u at = extended (bare_map functions labels) 0 (data_places at (unit_objects u))

-- and of the world in which main is called, where it has so many parameter words: the null pointer has an address too
abbrev pub main_map : (ℕ → ℕ) → (ℕ → ℕ → ℕ) → LoweredUnit → ℕ → ℕ → ℕ → Map
main_map functions labels u at null_at zero = unit_map functions labels u at
main_map functions labels u at null_at (suc words) = extended (unit_map functions labels u at) (length u.objects) (null_at ∷ [])

-- What a machine's memory has at the start: below the floor the data, which hold the unit's objects; and above it four
-- zeros at an address.
pub record IsLoaded (functions : ℕ → ℕ) (labels : ℕ → ℕ → ℕ) (u : LoweredUnit) (floor at null_at : ℕ) (memory : ℕ → Option ℕ) : Type 0 where
  pub four : at % 4 ≡ 0
  pub some : 0 < at
  pub ends : EndBy floor at (unit_objects u)
  pub stand : StandAll (unit_map functions labels u at) (data_places at (unit_objects u)) (unit_objects u) memory
  pub null_four : null_at % 4 ≡ 0
  pub above : floor ≤ null_at
  pub null_some : 0 < null_at
  pub small : null_at + 4 < 2 ^ 32
  pub zeros : (k : ℕ) → k < 4 → memory (null_at + k) ≡ Some 0

abbrev pub UnitsAreNumbered : Type 0
UnitsAreNumbered =
    (u : LoweredUnit)
    → AreNumbered 0 (unit_objects u) × (length (unit_objects u) ≡ length u.objects)

-- main's world lies there
abbrev pub MainBegins : Type 0
MainBegins =
    (functions : ℕ → ℕ) (labels : ℕ → ℕ → ℕ) (u : LoweredUnit) (floor at null_at words : ℕ)
    (input : List ℕ) (memory : ℕ → Option ℕ)
    → IsLoaded functions labels u floor at null_at memory
    → let w = main_world u words input in Lies (main_map functions labels u at null_at words) floor w.made w.objects memory

-- and its second argument is the address
abbrev pub MainIsHanded : Type 0
MainIsHanded =
    (functions : ℕ → ℕ) (labels : ℕ → ℕ → ℕ) (u : LoweredUnit) (floor at null_at words : ℕ)
    (memory : ℕ → Option ℕ)
    → IsLoaded functions labels u floor at null_at memory
    → IsWord (main_map functions labels u at null_at (suc words)) (Plain (Pointer (null_name u) 0)) null_at
