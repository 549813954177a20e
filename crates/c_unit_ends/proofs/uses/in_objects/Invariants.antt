use Rattle.std.proofs.Common.{◌≡◌, drop}
use Rattle.c_unit_ends.specs.NameFaults.{missing_in}
use Rattle.c_unit_ends.specs.Uses.{object_uses}
use Rattle.c_unit_ends.proofs.uses.in_objects.Given as goal

abbrev pub invariant-loop-object : goal.invariant-loop-object
invariant-loop-object l = missing_in l.standings l.least (object_uses (drop l.object-index l.list)) ≡ missing_in l.standings l.fn.found (object_uses l.list)
