use Rattle.std.proofs.Common.{◌≡◌, ◌<◌, ◌≤◌, get_or, length, nat_eq, subst, arith, List}
use Rattle.indexmap.specs.IndexMap.{get}
use Rattle.op_forest.specs.Nodes.{Node}
use Rattle.whole_lowered.specs.Labels.{KnowsTree}
use Rattle.whole_lowered.proofs.Each.{all_done, all_more}
use Rattle.whole_lowered.proofs.symbols.check_function.Goals as goal

pub loop-tree-preserved : goal.loop-tree-preserved
loop-tree-preserved c =
    all_more (KnowsTree c.args.names (get nat_eq c.args.labels.now.places)) c.args.function.now.forest.roots c.loop-tree.tree-index c.tree-item.result
    (subst (λ (ts : List Node). c.loop-tree.tree-index < length ts) c.as_slice-tree-items.ensures c.loop-tree-test.true)
    (subst (λ (ts : List Node). c.tree-item.result ≡ get_or ts c.loop-tree.tree-index c.tree-item.result) c.as_slice-tree-items.ensures c.tree-item.is)
    c.loop-tree.invariant (c.is_known.ensures c.if-not-is_known.false)

pub returns : goal.returns
returns c = λ u many.
    let each = all_done (KnowsTree c.args.names (get nat_eq c.args.labels.now.places)) c.args.function.now.forest.roots c.loop-tree.tree-index (subst (λ (ts : List Node). length ts ≤ c.loop-tree.tree-index) c.as_slice-tree-items.ensures c.loop-tree-test.false) c.loop-tree.invariant in
    record {
      name = (let below = c.if-function-names.false in omega (arith, below, many));
      symbols = λ k d lt. each k d lt u c.args.function.now.forest.roots many c.requires;
    }
