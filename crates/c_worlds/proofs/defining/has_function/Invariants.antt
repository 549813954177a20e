use Rattle.std.proofs.Common.{◌≡◌, List, map, drop}
use Rattle.c_types.specs.CType.{CType}
use Rattle.c_meaning.specs.Units.{function_seen}
use Rattle.c_runs.specs.Calls as calls
use Rattle.c_worlds.proofs.defining.has_function.Given as goal

abbrev pub invariant-loop-function : goal.invariant-loop-function
invariant-loop-function l =
    (types : List CType)
    → calls.has_function (map (function_seen types) l.functions) l.name ≡ calls.has_function (map (function_seen types) (drop l.function-index l.functions)) l.name
