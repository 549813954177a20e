use Rattle.std.proofs.Common.{◌≡◌, drop, length}
use Rattle.dag_forest.specs.Standings.{placed, placed_of, unplaced}
use Rattle.dag_forest.proofs.choice.choose.Given as goal

abbrev pub invariant-loop-step : goal.invariant-loop-step
invariant-loop-step l = record {
  placed : placed l.lowest (placed_of l.choice.standing.items l.choice.reads.items l.choice.slots) (drop l.step-index l.steps) ≡ placed l.lowest (unplaced l.nodes) l.steps;
  standing : length l.choice.standing.items ≡ l.nodes;
  reads : length l.choice.reads.items ≡ l.nodes;
}
