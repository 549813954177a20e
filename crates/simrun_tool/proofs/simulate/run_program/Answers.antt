use Rattle.simrun_tool.proofs.Simulated.{run_of}
use Rattle.simrun_tool.proofs.simulate.run_program.Goals as goal

pub returns-in-Ok-clause-ran : goal.returns-in-Ok-clause-ran
returns-in-Ok-clause-ran g c =
    run_of c.args.options c.args.program c.args.bytes _ _ _ _ c.run_machine.result c.in-Ok.machine c.in-Ok.ensures.loaded c.run_machine.ensures.ran
