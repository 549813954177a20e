use Rattle.std.proofs.Common.{◌≡◌, ◌≤◌, ◌+◌, ◌-◌, ◌++◌, List, length, drop}
use Rattle.lcc_text.specs.Lines.{lines_of}
use Rattle.lburg_model.specs.Tree.{MTree}
use Rattle.lburg_trees.specs.TailText.{AreTrees}
use Rattle.lburg_trees.specs.Taking.{Takes}
use Rattle.lburg_trees.specs.Reading.{AreFine}
use Rattle.lburg_trees.proofs.tail.take_lines.Given as goal

abbrev pub invariant-lines : goal.invariant-lines
invariant-lines g l = record {
  low : l.tail.before ≤ l.number;
  within : l.number + length l.rest ≤ 16777216;
  left : drop (l.number - l.tail.before) (lines_of l.tail.text.now) ≡ lines_of l.rest;
  found : (trees : List MTree) × ((others : List MTree) → AreTrees l.d (lines_of l.rest) others → AreTrees l.d (lines_of l.tail.text.now) (trees ++ others)) × Takes g.T.TreeTaker.takes 1 trees l.initial.taker l.taker × (l.tree ≡ 1 + length trees);
  few : l.tree + l.tail.before ≤ l.number + 1;
  ready : g.T.TreeTaker.ready l.taker l.tree;
  fine : AreFine l.d (lines_of l.tail.text.now) (l.number - l.tail.before);
}

abbrev pub decreases-lines : goal.decreases-lines
decreases-lines g l = length l.rest
