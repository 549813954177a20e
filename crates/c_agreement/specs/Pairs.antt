-- A call of a function in C, and a world of forests in which the function of the same name is called.
-- Source: X. Leroy, Formal verification of a realistic compiler, Communications of the ACM 52(7), 2009, section 2 (semantic preservation, observable behaviours).
use Rattle.std.specs.Prelude.{ℕ, ◌+◌, length}
use Rattle.op_forest.specs.Lowered.{LoweredUnit}
use Rattle.forests.specs.Budgets.{with_left}
use Rattle.forests.specs.Meaning.{call_of}
use Rattle.forests.specs.Units.{program_of}
use Rattle.forests.specs.Worlds.{World, Effect}
use Rattle.c_meaning.specs.Units.{UnitTree}
use Rattle.c_runs.specs.Calls.{Call}
use Rattle.c_runs.specs.Outcomes.{Result}
use Rattle.c_runs.specs.Run.{call}
use Rattle.c_match.specs.Ranges.{Map}

-- the source and the target of a compilation, a call of the source, where its objects stand, and the world in which the target is called
pub record CallPair : Type 0 where
  pub unit : UnitTree
  pub lowered : LoweredUnit
  pub source : Call
  pub map : Map
  pub target : World

abbrev pub pair_of : UnitTree → LoweredUnit → Call → Map → World → CallPair
pair_of u l a map w = record { unit = u; lowered = l; source = a; map = map; target = w }

-- the unit's own objects and texts
abbrev pub own_count : UnitTree → ℕ
own_count u = length u.objects + length u.texts

-- what C's call comes to with so many turns
abbrev pub source_run : CallPair → ℕ → Result
source_run s k = call s.unit s.lowered.order k s.source

-- and that of forests with so many root steps; the name of a function is its number among the unit's functions
abbrev pub target_run : CallPair → ℕ → Effect
target_run s m = call_of (program_of s.lowered) s.source.function (with_left m s.target)
