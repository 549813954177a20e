use Rattle.std.proofs.Common.{◌≡◌, drop, map}
use Rattle.c_types.specs.Table.{Table}
use Rattle.c_unit_parts.specs.PartsIn.{function_in}
use Rattle.c_units.specs.Wholes.{main_from}
use Rattle.c_check_unit.proofs.whole.main_place.Given as goal

abbrev pub invariant-loop-place : goal.invariant-loop-place
invariant-loop-place l = (t : Table) → main_from l.place (map (function_in t) (drop l.place l.functions)) ≡ main_from 0 (map (function_in t) l.functions)
