-- Each program's run ends somehow.
use Rattle.std.proofs.Common.{ℕ, List, [], inl, inr, refl}
use Rattle.asm_text.specs.Linked.{linked_code, linked_data}
use Rattle.asm_text.specs.Runs.{Going}
use Rattle.mips_machine.specs.Run.{first_cpu, mrun}
use Rattle.mips_machine.specs.StepTable.{step}
use Rattle.command_words.specs.declared.run_options.RunOptions.{RunOptions}
use Rattle.outcomes.specs.declared.outcome.End.{End}
use Rattle.outcomes.specs.declared.outcome.End.TheVariants as ends
use Rattle.outcomes.specs.Status.{IsRunStatus}
use Rattle.outcomes.specs.Outcome.{end_status}
use Rattle.machine_runs.proofs.lemmas.RunEndings.{ends_somehow}
use Rattle.simrun_tool.specs.Simulation.{IsSimulation}
use Rattle.simrun_tool.specs.Runnable.{IsRunnable}

pub simulated : (o : RunOptions) (input : List ℕ) → IsRunnable input → (end : End) × (text : List ℕ) × IsSimulation o input end text
simulated o input r =
    let first = first_cpu (linked_data o.order r.program) o.stack r.main in
    let (end, ran) = ends_somehow (step (linked_code r.program) o.order) (record { printed = []; place = Going first r.bytes }) tt o.steps in
    (end, (mrun r.program o.order o.stack r.main r.bytes o.steps).printed, record { assembly = r.assembly; bytes = r.bytes; parted = r.parted; program = r.program; is_assembly = r.is_assembly; run = record { main = r.main; has_main = r.has_main; ran = ran } })

-- and that is told by a status of its own
pub run_status : (o : RunOptions) (input text : List ℕ) (end : End) → IsSimulation o input end text → IsRunStatus (end_status end)
run_status o input text ends.Finished s = absurd s.run.ran
run_status o input text (ends.NoCover n) s = absurd s.run.ran
run_status o input text (ends.Exited n) s = inl refl
run_status o input text (ends.Stuck cause pc k) s = inr refl
run_status o input text (ends.StackOut pc k) s = inr refl
run_status o input text (ends.OutOfSteps n) s = inr refl
run_status o input text (ends.Undefined cause n) s = absurd s.run.ran
run_status o input text (ends.OutOfTurns n) s = absurd s.run.ran
