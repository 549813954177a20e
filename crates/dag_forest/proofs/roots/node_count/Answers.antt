use Rattle.std.proofs.Common.{◌+◌, ◌≤◌, drop, length, arith, ap}
use Rattle.std.proofs.lemmas.List.{at_drop_all}
use Rattle.dag_forest.specs.Tally.{node_count}
use Rattle.dag_forest.proofs.Counts.{drop_get, count_cons}
use Rattle.dag_forest.proofs.roots.node_count.Goals as goal

pub loop-id-preserved : goal.loop-id-preserved
loop-id-preserved c = record {
  counted =
      let es = c.args.entries.now.values in
      let e = c.get.result.now in
      let s = ap node_count (drop_get es c.loop-id.id e c.get.ensures) in
      let o = count_cons e (drop (c.loop-id.id + 1) es) in
      let n = c.nodes_in-count.ensures.is in
      let i = c.loop-id.invariant.counted in
      omega (arith, s, o, n, i);
  few = let a = c.nodes_in-count.ensures.few in let b = c.loop-id.invariant.few in omega (arith, a, b);
}

pub returns-clause-is : goal.returns-clause-is
returns-clause-is c =
    let es = c.args.entries.now.values in
    let i = c.loop-id.invariant.counted in
    let end : length es ≤ c.loop-id.id = omega arith in
    let d = at_drop_all node_count es c.loop-id.id end in
    omega (arith, i, d)
