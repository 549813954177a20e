-- A lowered unit whose names are numbered as C's unit numbers its functions, objects and texts, and the built-in functions behind them.
use Rattle.std.specs.Prelude.{◌≡◌, ◌≤◌, ◌<◌, ℕ, ◌+◌, IsSome, Some, length, slice_get}
use Rattle.op_forest.specs.declared.lowered.LoweredFunction.{LoweredFunction}
use Rattle.op_forest.specs.declared.lowered.LoweredObject.{LoweredObject}
use Rattle.op_forest.specs.Lowered.{LoweredUnit}
use Rattle.op_forest.specs.Units.{built_in_named}
use Rattle.c_meaning.specs.Units.{UnitTree}
use Rattle.c_runs.specs.Calls.{built_in_at, built_ins, first_built_in}
use Rattle.lowered_data.specs.Laws.{NamesStand}

-- The functions are as many as C's, each named by its number; the objects and texts follow in order, and each of the built-in functions that the
-- unit doesn't define has a name at its number. What is named else, as tables, is named behind them.
pub record AreNumbered (u : UnitTree) (l : LoweredUnit) : Type 0 where
  pub many : length l.functions ≡ length u.functions
  pub functions : (n : ℕ) (f : LoweredFunction) → slice_get l.functions n ≡ Some f → f.name ≡ n
  pub enough : length u.objects + length u.texts ≤ length l.objects
  pub objects : (n : ℕ) (o : LoweredObject) → slice_get l.objects n ≡ Some o → n < length u.objects + length u.texts → o.name ≡ length u.functions + n
  pub tables : (n : ℕ) (o : LoweredObject) → slice_get l.objects n ≡ Some o → length u.objects + length u.texts ≤ n → first_built_in u + length (built_ins u) ≤ o.name
  pub built_ins : (f : ℕ) → IsSome (built_in_at u f) → IsSome (built_in_named l f)

-- ---- the law

abbrev pub NumbersStand : Type 0
NumbersStand = (u : UnitTree) (l : LoweredUnit) → AreNumbered u l → NamesStand u (length u.objects + length u.texts) l
