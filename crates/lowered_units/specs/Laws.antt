-- Laws of lowered units: what is there by its place.
use Rattle.std.specs.Prelude.{◌≡◌, ℕ, ◌+◌, Some, List, length, slice_get, take}
use Rattle.lcc_base.specs.declared.order.Order.{Order}
use Rattle.op_forest.specs.declared.lowered.LoweredFunction.{LoweredFunction}
use Rattle.op_forest.specs.Lowered.{LoweredUnit}
use Rattle.c_meaning.specs.Units.{FunctionTree, UnitTree}
use Rattle.lowered_statements.specs.FunctionBodies.{low_f}
use Rattle.lowered_units.specs.LoweredUnits.{IsLoweredFunction, IsLoweredUnit}
use Rattle.lowered_units.specs.Tables.{bodies, first_table, table_count, table_object}

-- how many objects and texts a unit has
abbrev pub own_count : UnitTree → ℕ
own_count u = length u.objects + length u.texts

-- how many tables stand before those of the function of this number
abbrev pub tables_before : UnitTree → Order → ℕ → ℕ
tables_before u order n = table_count (take n (bodies u order))

-- the name of its first table
abbrev pub table_name : UnitTree → Order → ℕ → ℕ
table_name u order n = first_table u + tables_before u order n

-- ---- functions

pub record HasFunction (u : UnitTree) (order : Order) (l : LoweredUnit) (n : ℕ) (f : FunctionTree) : Type 0 where
  pub function : LoweredFunction
  pub there : slice_get l.functions n ≡ Some function
  pub is : IsLoweredFunction n f (low_f u order n (table_name u order n) f) function

abbrev pub FunctionsStand : Type 0
FunctionsStand =
    (u : UnitTree) (order : Order) (l : LoweredUnit) → IsLoweredUnit u order l → (n : ℕ) (f : FunctionTree) → slice_get u.functions n ≡ Some f → HasFunction u order l n f

-- ---- tables

-- so many objects stand before a table
abbrev pub HasTable : UnitTree → Order → LoweredUnit → ℕ → ℕ → List ℕ → Type 0
HasTable u order l n k labels = slice_get l.objects (own_count u + (tables_before u order n + k)) ≡ Some (table_object n (table_name u order n + k) labels)

abbrev pub TablesStand : Type 0
TablesStand =
    (u : UnitTree) (order : Order) (l : LoweredUnit) → IsLoweredUnit u order l → (n : ℕ) (f : FunctionTree) → slice_get u.functions n ≡ Some f
    → (k : ℕ) (labels : List ℕ) → slice_get (low_f u order n (table_name u order n) f).tables k ≡ Some labels → HasTable u order l n k labels
