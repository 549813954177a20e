-- Built-in functions by name, in a lowered unit.
-- Source: ISO/IEC 9899:1990, 7.9.7 (putchar, getchar) and 7.10.4 (exit).
use Rattle.std.specs.Prelude.{◌≡◌, ℕ, Some}
use Rattle.op_forest.specs.Callees.{Provided}
use Rattle.op_forest.specs.Lowered.{LoweredUnit}
use Rattle.op_forest.specs.Units.{callee_of}
use Rattle.c_meaning.specs.declared.built_in.BuiltIn.{BuiltIn}
use Rattle.c_meaning.specs.Units.{UnitTree}
use Rattle.c_runs.specs.Calls.{built_in_at}
use Rattle.c_calls_agree.specs.Programs.{provided_as}

-- the number of each one that the unit doesn't define stands for it
abbrev pub ProvidesBuiltIns : UnitTree → LoweredUnit → Type 0
ProvidesBuiltIns u l = (n : ℕ) (b : BuiltIn) → built_in_at u n ≡ Some b → callee_of l n ≡ Provided (provided_as b)
