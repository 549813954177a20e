use Rattle.std.proofs.Common.{◌≡◌, ◌++◌, drop}
use Rattle.dag_forest.specs.Standings.{stood}
use Rattle.dag_forest.proofs.emission.trees_of.Given as goal

abbrev pub invariant-loop-step : goal.invariant-loop-step
invariant-loop-step l = l.trees ++ stood l.standing (drop l.step-index l.steps) ≡ stood l.standing l.steps
