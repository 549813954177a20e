use Rattle.std.proofs.Common.{◌≤◌, List, length, take, ap, subst, rules, arith}
use Rattle.std.specs.Prelude.{All}
use Rattle.std.proofs.lemmas.List.{take_all}
use Rattle.std.proofs.lemmas.List.Elements.{All-weaker, All-more}
use Rattle.lburg_model.specs.Tree.{nodes}
use Rattle.tree_labeller.proofs.sizes.most_nodes.Goals as goal

pub loop-tree-preserved : goal.loop-tree-preserved
loop-tree-preserved g c =
    let trees = c.args.trees.now in
    let i = c.loop-tree.tree-index in
    let tree = c.tree-item.result in
    let greatest = c.max-most.ensures in
    let counted = c.node_count.ensures in
    let same = ap (λ x. nodes (g.N.TreeNode.tree x)) c.tree-item.is in
    record {
      within = search rules;
      most = All-more (λ x. nodes (g.N.TreeNode.tree x) ≤ c.max-most.result) trees i tree c.loop-tree-test.true (All-weaker (λ x. nodes (g.N.TreeNode.tree x) ≤ c.loop-tree.most) (λ x. nodes (g.N.TreeNode.tree x) ≤ c.max-most.result) (λ x few. omega arith) (take i trees) c.loop-tree.invariant.most) (omega arith);
    }

pub returns-clause-most : goal.returns-clause-most
returns-clause-most g c =
    let Most : List g.row.N.Denot → Type 0 = λ trees. All (λ x. nodes (g.N.TreeNode.tree x) ≤ c.loop-tree.most) trees in
    let over : length c.args.trees.now ≤ c.loop-tree.tree-index = omega arith in
    subst Most (take_all c.loop-tree.tree-index c.args.trees.now over) c.loop-tree.invariant.most
