use Rattle.std.proofs.Common.{◌≡◌}
use Rattle.machine_runs.proofs.Gathering.{Turning}
use Rattle.machine_runs.proofs.running.run_steps.Given as goal

abbrev pub invariant-loop-behind : goal.invariant-loop-behind
invariant-loop-behind g l =
    record {
      turning : Turning (g.M.Turning.step l.fn.machine) (g.M.Turning.state l.fn.machine) l.fn.input l.behind (g.M.Turning.step l.machine) (g.M.Turning.state l.machine) l.input l.gathered (g.K.Sink.taken l.fn.output) (g.K.Sink.taken l.output);
      faults : g.K.Sink.faults l.output ≡ g.K.Sink.faults l.fn.output;
    }
