use Rattle.std.proofs.Common.{◌≡◌, ◌≤◌, [], drop, length, replicate}
use Rattle.dag_forest.specs.declared.kids.Kids.TheVariants.{Zero}
use Rattle.dag_forest.specs.Walks.{no_use, walk}
use Rattle.dag_forest.proofs.uses.used_steps.Given as goal

-- the walk over the acts that are left
abbrev pub invariant-loop-act : goal.invariant-loop-act
invariant-loop-act l = record {
  walked : walk (drop l.act-index l.backwards) l.uses.items l.ends l.next l.steps.items ≡ walk l.backwards (replicate l.nodes no_use) 0 Zero [];
  nodes : length l.uses.items ≡ l.nodes;
  few : l.ends ≤ l.act-index;
}
