-- The lowered objects that hold what a program's objects and texts hold as it starts.
-- Source: ISO/IEC 9899:1990, 6.1.4 (string literals), 6.5.7 (initialization).
use Rattle.std.specs.Prelude.{◌≡◌, ℕ, ◌+◌, true, Some, List, [], ◌∷◌, ◌++◌, length, slice_get}
use Rattle.lcc_base.specs.declared.order.Order.{Order}
use Rattle.objects.specs.Bytes.{known_bytes}
use Rattle.objects.specs.Objects.{Object}
use Rattle.op_forest.specs.declared.lowered.LoweredObject.{LoweredObject}
use Rattle.c_meaning.specs.Units.{UnitTree}
use Rattle.c_runs.specs.Calls.{Call}
use Rattle.c_runs.specs.Outcomes.{Result, Next}
use Rattle.c_runs.specs.Run.{setting, started}
use Rattle.c_runs.specs.Soundness.{IsSound}
use Rattle.c_runs.specs.Worlds.{World, objects, with_input}
use Rattle.lowered_data.specs.Data.{image, HaveHomes}

-- A program starts in this world, with any input, whatever calls do.
abbrev pub StartsIn : UnitTree → Order → World → Type 0
StartsIn u order w = (calls : ℕ → Call → Result) (input : List ℕ) (k : ℕ) → started (setting u order calls) input k ≡ Next k (with_input w input)

-- a text as an object, so many made before: its bytes and a null, which may not be written
abbrev pub text_object : ℕ → List ℕ → Object
text_object made text = record { made = made; constant = true; bytes = known_bytes (text ++ 0 ∷ []) }

-- One lowered object for each object that lives at the start, and so for each of the unit's objects and texts, in order. The texts are as they
-- were made.
pub record IsInitialData (u : UnitTree) (order : Order) (data_of : List LoweredObject) : Type 0 where
  pub world : World
  pub starts : StartsIn u order world
  pub sound : IsSound u world
  pub made : world.storage.made ≡ length u.objects + length u.texts
  pub texts : (n : ℕ) (text : List ℕ) → slice_get u.texts n ≡ Some text → slice_get (objects world) (length u.objects + n) ≡ Some (text_object (length u.objects + n) text)
  pub live : length (objects world) ≡ length u.objects + length u.texts
  pub many : length data_of ≡ length (objects world)
  pub homes : HaveHomes (image u order (objects world)) 0 data_of
