use Rattle.std.proofs.Common.{◌≡◌, ◌≤◌, ℕ, length}
use Rattle.c_runs.specs.Statements.{At, exec_all}
use Rattle.c_runs.specs.Worlds.{World}
use Rattle.c_worlds.specs.declared.program.Program.{Program}
use Rattle.c_eval.specs.Stacks.{statements}
use Rattle.c_eval.specs.States.{own}
use Rattle.c_eval.specs.Weights.{statements_of, weight_ss}
use Rattle.c_eval.proofs.labels.from_label.Given as goal

abbrev pub invariant-loop-left : goal.invariant-loop-left
invariant-loop-left l =
    record {
      same : (p : Program) → (k : ℕ) → (w : World) → exec_all (own p) (statements p l.left) (At l.label) k w ≡ exec_all (own p) (statements p l.statements) (At l.label) k w;
      less : weight_ss (statements_of l.left) ≤ weight_ss (statements_of l.statements);
    }

abbrev pub decreases-loop-left : goal.decreases-loop-left
decreases-loop-left l = length l.left
