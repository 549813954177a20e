use Rattle.std.proofs.Common.{◌+◌}
use Rattle.c_eval.specs.Steps.{Leads}
use Rattle.c_eval.specs.Weights.{going}
use Rattle.c_eval.proofs.machine.Machine.run.Given as goal

abbrev pub invariant-turn : goal.invariant-turn
invariant-turn l = Leads l.program l.initial.self l.initial.focus l.self l.focus

abbrev pub decreases-turn : goal.decreases-turn
decreases-turn l = l.self.turns + going l.focus
