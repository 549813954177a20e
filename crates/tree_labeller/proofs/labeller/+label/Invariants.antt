use Rattle.std.proofs.Common.{◌+◌, ◌*◌}
use Rattle.lburg_model.specs.Tree.{nodes}
use Rattle.tree_labeller.proofs.labeller.+label.Given as goal

abbrev pub decreases-label_at : goal.decreases-label_at
decreases-label_at g l = 2 * nodes (g.N.TreeNode.tree l.tree.now) + 1

abbrev pub decreases-label_kids : goal.decreases-label_kids
decreases-label_kids g l = 2 * nodes (g.N.TreeNode.tree l.tree.now)
