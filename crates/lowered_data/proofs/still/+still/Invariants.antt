use Rattle.std.proofs.Common.{◌≡◌, drop}
use Rattle.c_meaning.specs.CoreTrees.{cores_of}
use Rattle.lowered_data.specs.Still.{are_still}
use Rattle.lowered_data.proofs.still.+still.Given as goal

abbrev pub invariant-are_still-loop-e : goal.invariant-are_still-loop-e
invariant-are_still-loop-e l = are_still (cores_of (drop l.e-index l.list)) ≡ are_still (cores_of l.list)
