use Rattle.std.proofs.Common.{◌≡◌, take}
use Rattle.op_forest.proofs.forest.Forest.copied.Given as goal

abbrev pub invariant-loop-root : goal.invariant-loop-root
invariant-loop-root l = l.roots ≡ take l.root-index l.root-items
