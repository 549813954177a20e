use Rattle.lburg_model.specs.Tree.{nodes}
use Rattle.tree_labeller.proofs.sizes.+node_count.Given as goal

abbrev pub decreases-node_count : goal.decreases-node_count
decreases-node_count g l = nodes (g.N.TreeNode.tree l.tree.now)
