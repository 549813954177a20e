use Rattle.std.proofs.Common.{◌≡◌, drop}
use Rattle.c_meaning.specs.CoreTrees.{cores_of}
use Rattle.c_meaning.specs.Constants.{all_constant}
use Rattle.c_values.proofs.constants.+constant.Given as goal

abbrev pub invariant-are_constant-loop-kid : goal.invariant-are_constant-loop-kid
invariant-are_constant-loop-kid l = all_constant (cores_of (drop l.kid-index l.kids)) ≡ all_constant (cores_of l.kids)
