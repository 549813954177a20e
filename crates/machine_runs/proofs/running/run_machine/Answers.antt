use Rattle.std.proofs.Common.{ℕ, subst}
use Rattle.lcc_base.specs.Faults.{Rose}
use Rattle.machine_runs.specs.Turns.{run_with}
use Rattle.machine_runs.proofs.Gathering.{ended_part}
use Rattle.machine_runs.proofs.running.run_machine.Goals as goal

pub returns-in-Err-clause-ran : goal.returns-in-Err-clause-ran
returns-in-Err-clause-ran g c =
    let Rises : ℕ → Type 0 = λ faults. Rose faults (g.K.Sink.faults c.hand_over.new.output) in (
      ended_part (run_with (g.M.Turning.step c.args.machine.now) (g.M.Turning.state c.args.machine.now) c.args.input.now) c.args.steps c.in-Ok.end _ _ _ _ c.in-Ok.ensures.ran c.in-Err.ensures.prefix,
      subst Rises c.in-Ok.ensures.cause.kept c.in-Err.ensures.cause.failed,
    )
