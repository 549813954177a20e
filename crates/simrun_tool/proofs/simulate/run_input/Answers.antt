use Rattle.std.proofs.Common.{List, ℕ, sym, subst}
use Rattle.outcomes.specs.declared.outcome.Outcome.{Outcome}
use Rattle.outcomes.specs.Work.{IsWorked}
use Rattle.outcomes.proofs.lemmas.Works.{worked}
use Rattle.input_parts.specs.InputMark.{IsParted}
use Rattle.simrun_tool.specs.Simulation.{simrun_behaviour}
use Rattle.simrun_tool.proofs.Worked.{simulated, not_read}
use Rattle.simrun_tool.proofs.simulate.run_input.Goals as goal

pub returns-in-Ok-copied-clause-worked : goal.returns-in-Ok-copied-clause-worked
returns-in-Ok-copied-clause-worked g c =
    let Parted : List ℕ → Type 0 = λ bytes. IsParted c.args.input.now c.parted.result.0.now bytes in
    worked (simrun_behaviour c.args.options) c.args.input.now _ _ _ _ c.run_program.result (c.simrun_laws.ensures.apart c.args.options)
    (simulated c.args.options c.in-Ok.program c.args.input.now c.parted.result.0.now c.in-Ok-copied.bytes _ _ _ _ c.run_program.result (subst Parted (sym c.in-Ok-copied.ensures) c.parted.ensures) c.in-Ok.ensures.found c.run_program.ensures.ran)

pub returns-in-Err-clause-worked : goal.returns-in-Err-clause-worked
returns-in-Err-clause-worked g c =
    let o = c.args.options in
    let taken = g.K.Sink.taken c.args.output.now in
    let faults = g.K.Sink.faults c.args.output.now in
    let Worked : Outcome → Type 0 = λ r. IsWorked (simrun_behaviour o) c.args.input.now taken taken faults faults r in
    subst Worked (sym c.refused.ensures) (worked (simrun_behaviour o) c.args.input.now taken taken faults faults _ (c.simrun_laws.ensures.apart o)
    (not_read o c.args.input.now c.parted.result.0.now c.parted.result.1.now taken faults c.in-Err.fault c.parted.ensures c.in-Err.ensures.fault))
