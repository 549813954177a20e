use Rattle.std.proofs.Common.{◌≡◌, drop}
use Rattle.c_meaning.specs.CoreTrees.{cores_of}
use Rattle.c_plain.specs.Plain.{are_plain}
use Rattle.c_plain.proofs.plain.+plain.Given as goal

abbrev pub invariant-are_plain-loop-e : goal.invariant-are_plain-loop-e
invariant-are_plain-loop-e l = are_plain (cores_of (drop l.e-index l.list)) ≡ are_plain (cores_of l.list)
