use Rattle.std.proofs.Common.{◌≡◌, drop, map}
use Rattle.c_types.specs.Table.{Table}
use Rattle.c_unit_parts.specs.PartsIn.{function_in}
use Rattle.c_units.specs.Wholes.{function_literals, once}
use Rattle.c_check_unit.proofs.texts.note_functions.Given as goal

abbrev pub invariant-loop-f : goal.invariant-loop-f
invariant-loop-f l = (t : Table) → once l.texts (function_literals (map (function_in t) (drop l.f-index l.list))) ≡ once l.fn.texts (function_literals (map (function_in t) l.list))
