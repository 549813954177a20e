use Rattle.std.proofs.Common.{◌≡◌, drop, map}
use Rattle.c_units.specs.Ends.{has_main}
use Rattle.c_unit_parts.specs.PartsIn.{function_in}
use Rattle.c_unit_ends.proofs.main_function.has_main.Given as goal

abbrev pub invariant-loop-function : goal.invariant-loop-function
invariant-loop-function l = has_main (map (function_in l.types) (drop l.function-index l.functions)) ≡ has_main (map (function_in l.types) l.functions)
