use Rattle.std.proofs.Common.{◌≤◌, ◌+◌, length}
use Rattle.lburg_trees.proofs.Tails.{Before}
use Rattle.lburg_trees.proofs.tail.tail_of.Given as goal

abbrev pub invariant-loop-line : goal.invariant-loop-line
invariant-loop-line l = record {
  lines : Before l.fn.text l.section l.rest l.before;
  within : l.before + length l.rest ≤ 16777216;
}

abbrev pub decreases-loop-line : goal.decreases-loop-line
decreases-loop-line l = length l.rest
