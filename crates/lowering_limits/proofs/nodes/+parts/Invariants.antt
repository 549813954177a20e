use Rattle.std.proofs.Common.{◌≡◌, ◌+◌, take}
use Rattle.c_meaning.specs.CoreTrees.{all_parts, cores_of}
use Rattle.lowering_limits.proofs.nodes.+parts.Given as goal

abbrev pub invariant-of_expressions-loop-c : goal.invariant-of_expressions-loop-c
invariant-of_expressions-loop-c l = l.count ≡ l.fn.before + all_parts (cores_of (take l.c-index l.list))
