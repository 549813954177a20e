-- What a lowered unit asks of its objects: items of the size that is said, which name what is there.
use Rattle.std.specs.Prelude.{◌≡◌, ◌<◌, ◌⊎◌, ℕ, ◌+◌, All, List, length, sum_by}
use Rattle.lcc_base.specs.declared.order.Order.{Order}
use Rattle.op_forest.specs.declared.lowered.Datum.{Datum}
use Rattle.op_forest.specs.declared.lowered.Datum.TheVariants as datum
use Rattle.op_forest.specs.declared.lowered.LoweredObject.{LoweredObject}
use Rattle.op_forest.specs.Lowered.{size_of}
use Rattle.c_meaning.specs.Units.{UnitTree}
use Rattle.c_runs.specs.Worlds.{objects}
use Rattle.lowered_data.specs.Data.{IsFunctionNumber}
use Rattle.lowered_data.specs.Initial.{IsInitialData}

-- the name of one of so many objects and texts
abbrev pub IsObjectName : UnitTree → ℕ → ℕ → Type 0
IsObjectName u own name = (place : ℕ) × (place < own) × (name ≡ length u.functions + place)

-- an item names a function or one of these; it is no label
abbrev pub IsNamedIn : UnitTree → ℕ → Datum → Type 0
IsNamedIn u own (datum.Name name offset) = IsFunctionNumber u name ⊎ IsObjectName u own name
IsNamedIn u own (datum.Label function label) = ⊥
IsNamedIn u own d = Unit {0}

pub record FitsIn (u : UnitTree) (own : ℕ) (o : LoweredObject) : Type 0 where
  pub name : IsObjectName u own o.name
  pub size : sum_by size_of o.items ≡ o.size
  pub names : All (IsNamedIn u own) o.items

-- ---- the law

abbrev pub DataFit : Type 0
DataFit = (u : UnitTree) (order : Order) (data_of : List LoweredObject) (d : IsInitialData u order data_of) → All (FitsIn u (length (objects d.world))) data_of
