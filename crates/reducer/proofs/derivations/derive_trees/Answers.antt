use Rattle.std.proofs.Common.{◌∙◌}
use Rattle.reducer.proofs.Listed.{next_best}
use Rattle.reducer.proofs.derivations.derive_trees.Goals as goal

pub loop-tree-preserved : goal.loop-tree-preserved
loop-tree-preserved g c =
    let l = c.loop-tree in
    let i = l.invariant in
    let room = c.label.ensures.room in
    record {
      best = next_best g.N.TreeNode.tree c.args.t.now c.args.trees.now l.tree-index c.tree-item.result l.all c.push.new.self c.in_ok-best.best c.loop-tree-test.true c.tree-item.is i.best c.in_ok-best.ensures c.in_ok-push.ensures.ok;
      nodes = room.0 ∙ i.nodes;
      nonterminals = room.1 ∙ i.nonterminals;
    }
