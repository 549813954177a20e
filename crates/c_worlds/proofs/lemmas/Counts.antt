-- How many functions, objects and texts a unit has.
use Rattle.std.proofs.Common.{◌≤◌, ◌<◌, ◌+◌, List, [], ◌∷◌, map, length, arith}
use Rattle.std.proofs.lemmas.List.{length-map}
use Rattle.c_types.specs.Table.{types}
use Rattle.c_meaning.specs.Units.{CoreUnit, FunctionTree, IsWhole, function_seen, object_seen, total, unit_seen}
use Rattle.c_runs.specs.Calls.{first_built_in}

-- functions are at most as many as all that is counted of them
pub functions_are_few : (fs : List FunctionTree) → length fs ≤ total fs
functions_are_few [] = omega arith
functions_are_few (f ∷ fs) = omega (arith, functions_are_few fs)

pub names_are_few : (u : CoreUnit) → IsWhole u → length u.functions + (length u.objects + length u.texts) < 2147483648
names_are_few u whole =
    omega (
      arith,
      functions_are_few (map (function_seen (types u.types)) u.functions),
      length-map u.functions (function_seen (types u.types)),
      length-map u.objects (object_seen (types u.types)),
      whole.unit.few,
    )

-- and so are the numbers before those of the built-in functions
pub first_is_small : (u : CoreUnit) → IsWhole u → first_built_in (unit_seen u) < 2147483648
first_is_small u whole =
    omega (arith, functions_are_few (map (function_seen (types u.types)) u.functions), whole.unit.few)
