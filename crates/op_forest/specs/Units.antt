-- What the names of a lowered unit stand for.
-- Source: ISO/IEC 9899:1990, 7.9.7 (putchar, getchar) and 7.10.4 (exit).
use Rattle.std.specs.Prelude.{ℕ, ◌==◌, Option, Some, None, if◌then◌else◌, List, find, position, slice_get, codes}
use Rattle.std.specs.Str.{bytes_eq}
use Rattle.op_forest.specs.declared.lowered.LoweredFunction.{LoweredFunction}
use Rattle.op_forest.specs.Callees.{Body, BuiltIn, Putchar, Getchar, Exit, Callee, Defined, Provided, Missing}
use Rattle.op_forest.specs.Lowered.{LoweredUnit}

-- the unit's function of a name
abbrev pub function_of : LoweredUnit → ℕ → Option LoweredFunction
function_of u name = find (λ f. f.name == name) u.functions

-- the place of the unit's object of a name
abbrev pub object_place : LoweredUnit → ℕ → Option ℕ
object_place u name = position (λ o. o.name == name) u.objects

-- the built-in function that these bytes name
abbrev pub built_in_of : List ℕ → Option BuiltIn
built_in_of bytes =
    if bytes_eq bytes (codes "putchar") then Some Putchar else (if bytes_eq bytes (codes "getchar") then Some Getchar else (if bytes_eq bytes (codes "exit") then Some Exit else None))

abbrev pub named_by : Option (List ℕ) → Option BuiltIn
named_by None = None
named_by (Some bytes) = built_in_of bytes

abbrev pub built_in_named : LoweredUnit → ℕ → Option BuiltIn
built_in_named u name = named_by (slice_get u.names name)

abbrev pub body_of : LoweredFunction → Body
body_of f = record { words = f.words; slots = f.forest.frame; roots = f.forest.roots }

-- A name stands for the unit's function of this name, else for its object, else for the built-in function.
abbrev pub callee_by : Option LoweredFunction → Option ℕ → Option BuiltIn → Callee
callee_by (Some f) object built_in = Defined (body_of f)
callee_by None (Some place) built_in = Missing
callee_by None None (Some b) = Provided b
callee_by None None None = Missing

abbrev pub callee_of : LoweredUnit → ℕ → Callee
callee_of u name = callee_by (function_of u name) (object_place u name) (built_in_named u name)
