-- What a value calls.
use Rattle.std.specs.Prelude.{◌≡◌, Some, None}
use Rattle.objects.specs.declared.value.Value.{Value}
use Rattle.objects.specs.declared.value.Value.TheVariants.{Function as FunctionValue}
use Rattle.c_types.specs.Table.{types}
use Rattle.c_meaning.specs.Units.{function_seen}
use Rattle.c_runs.specs.Calls.{function_at, built_in_at}
use Rattle.c_entries.specs.declared.callee.Callee.{Callee}
use Rattle.c_entries.specs.declared.callee.Callee.TheVariants.{Function, BuiltIn, Nothing}
use Rattle.c_worlds.specs.declared.program.Program.{Program}
use Rattle.c_worlds.specs.Programs.{unit_of}

-- a function of the unit, a built-in one, or neither: then the value is no function, or of a number that none has
abbrev pub Calls : Program → Value → Callee → Type 0
Calls p v (Function f number) = (v ≡ FunctionValue number) × (function_at (unit_of p) number ≡ Some (function_seen (types p.core.now.types) f.now))
Calls p (FunctionValue n) (BuiltIn b) = (function_at (unit_of p) n ≡ None) × (built_in_at (unit_of p) n ≡ Some b)
Calls p v (BuiltIn b) = ⊥
Calls p (FunctionValue n) Nothing = (function_at (unit_of p) n ≡ None) × (built_in_at (unit_of p) n ≡ None)
Calls p v Nothing = Unit {0}
