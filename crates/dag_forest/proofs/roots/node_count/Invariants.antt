use Rattle.std.proofs.Common.{◌≡◌, ◌+◌, ◌≤◌, drop}
use Rattle.dag_forest.specs.Tally.{node_count}
use Rattle.dag_forest.proofs.roots.node_count.Given as goal

abbrev pub invariant-loop-id : goal.invariant-loop-id
invariant-loop-id l = record {
  counted : l.count + node_count (drop l.id l.entries.values) ≡ node_count l.entries.values;
  few : l.count ≤ l.id;
}
