use Rattle.std.proofs.Common.{◌≡◌, drop}
use Rattle.c_unit_ends.specs.NameFaults.{missing_in}
use Rattle.c_unit_ends.specs.Uses.{function_uses}
use Rattle.c_unit_ends.proofs.uses.in_functions.Given as goal

abbrev pub invariant-loop-function : goal.invariant-loop-function
invariant-loop-function l = missing_in l.standings l.least (function_uses (drop l.function-index l.list)) ≡ missing_in l.standings l.fn.found (function_uses l.list)
