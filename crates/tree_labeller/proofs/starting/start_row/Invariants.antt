use Rattle.std.proofs.Common.{◌≡◌, ◌+◌}
use Rattle.lburg_tables.specs.Row.{Among}
use Rattle.lburg_tables.specs.RowOf.{row_of}
use Rattle.tree_labeller.specs.Labelled.{Started}
use Rattle.tree_labeller.proofs.starting.start_row.Given as goal

abbrev pub invariant-loop-k : goal.invariant-loop-k
invariant-loop-k g l = record {
  started : Started l.node.labels.board.now.rows l.node.labels.rules.now l.node.at (g.N.TreeNode.tree l.tree) (row_of l.row) (Among l.places l.k);
  steps : l.steps ≡ l.initial.steps + l.k;
}
