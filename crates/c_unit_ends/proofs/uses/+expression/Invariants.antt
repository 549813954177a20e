use Rattle.std.proofs.Common.{◌≡◌, drop}
use Rattle.c_meaning.specs.CoreTrees.{cores_of}
use Rattle.c_unit_ends.specs.NameFaults.{missing_in}
use Rattle.c_unit_ends.specs.Uses.{all_uses}
use Rattle.c_unit_ends.proofs.uses.+expression.Given as goal

abbrev pub invariant-in_all-loop-c : goal.invariant-in_all-loop-c
invariant-in_all-loop-c l = missing_in l.standings l.least (all_uses (cores_of (drop l.c-index l.list))) ≡ missing_in l.standings l.fn.found (all_uses (cores_of l.list))
