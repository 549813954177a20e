use Rattle.std.proofs.Common.{◌^◌, ◌≤◌, take}
use Rattle.std.specs.Prelude.{All}
use Rattle.lburg_model.specs.Tree.{nodes}
use Rattle.tree_labeller.proofs.sizes.most_nodes.Given as goal

abbrev pub invariant-loop-tree : goal.invariant-loop-tree
invariant-loop-tree g l = record {
  within : l.most ≤ 2 ^ 25;
  most : All (λ x. nodes (g.N.TreeNode.tree x) ≤ l.most) (take l.tree-index l.trees);
}
