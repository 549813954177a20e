use Rattle.std.proofs.Common.{◌≡◌, ◌≤◌, ◌+◌}
use Rattle.c_eval.specs.Frames.{frames}
use Rattle.c_eval.specs.Steps.{Leads}
use Rattle.c_eval.specs.Weights.{going, weight, weights}
use Rattle.c_eval.proofs.machine.Machine.until_turn.Given as goal

abbrev pub invariant-loop-at : goal.invariant-loop-at
invariant-loop-at l = record {
  leads : Leads l.program l.initial.self l.initial.at l.self l.at;
  turns : l.self.turns ≡ l.initial.self.turns;
  going : going l.at ≤ going l.initial.at;
}

abbrev pub decreases-loop-at : goal.decreases-loop-at
decreases-loop-at l = weight l.at + weights (frames l.self.stack)
