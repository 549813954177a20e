-- What the work on a program did, from what its machine did.
use Rattle.std.proofs.Common.{◌≡◌, ℕ, List, [], drop, subst}
use Rattle.std.specs.declared.option.Option.{Option}
use Rattle.asm_text.specs.Linked.{HasMain, linked_code, linked_data}
use Rattle.asm_text.specs.Program.{MProgram}
use Rattle.asm_text.specs.Runs.{Going, run_from}
use Rattle.mips_machine.specs.State.{MMachine}
use Rattle.mips_machine.specs.StepTable.{step}
use Rattle.mips_machine.specs.Run.{first_cpu, mrun}
use Rattle.outcomes.specs.declared.outcome.Outcome.{Outcome}
use Rattle.outcomes.specs.declared.outcome.Outcome.TheVariants as outcome
use Rattle.command_words.specs.declared.run_options.RunOptions.{RunOptions}
use Rattle.machine_runs.specs.Endings.{HasRun}
use Rattle.simrun_tool.specs.ProgramRan.{ProgramRan}
use Rattle.machine_runs.proofs.lemmas.RunEndings.{ends_somehow}

by_outcome : (o : RunOptions) (p : MProgram) (main : ℕ) (bytes : List ℕ) (taken taken_after : Option (List ℕ)) (faults faults_after : ℕ) (out : Outcome) → HasMain p main → HasRun (λ n. mrun p o.order o.stack main bytes n) o.steps taken taken_after faults faults_after out → ProgramRan o p bytes taken taken_after faults faults_after out
by_outcome o p main bytes taken taken_after faults faults_after (outcome.Done end) has (text, ran, took, same) =
    (text, record { main = main; has_main = has; ran = ran }, took, same)
by_outcome o p main bytes taken taken_after faults faults_after outcome.WriteFault has (part, rose) =
    let first = first_cpu (linked_data o.order p) o.stack main in
    let (end, ran) = ends_somehow (step (linked_code p) o.order) (record { printed = []; place = Going first bytes }) tt o.steps in
    (end, (mrun p o.order o.stack main bytes o.steps).printed, record { main = main; has_main = has; ran = ran }, part, rose)
by_outcome o p main bytes taken taken_after faults faults_after out has none = absurd none

-- the run of a machine that was loaded, from the first of the bytes
pub run_of : (o : RunOptions) (p : MProgram) (bytes : List ℕ) (taken taken_after : Option (List ℕ)) (faults faults_after : ℕ) (out : Outcome) (m : MMachine) → (main : ℕ) × HasMain p main × (m ≡ record { code = linked_code p; order = o.order; cpu = first_cpu (linked_data o.order p) o.stack main }) → HasRun (λ n. run_from (step m.code m.order) (record { printed = []; place = Going m.cpu (drop 0 bytes) }) n) o.steps taken taken_after faults faults_after out → ProgramRan o p bytes taken taken_after faults faults_after out
run_of o p bytes taken taken_after faults faults_after out m (main, has, is) ran =
    let Ran : MMachine → Type 0 = λ k. HasRun (λ n. run_from (step k.code k.order) (record { printed = []; place = Going k.cpu bytes }) n) o.steps taken taken_after faults faults_after out in
    by_outcome o p main bytes taken taken_after faults faults_after out has (subst Ran is ran)
