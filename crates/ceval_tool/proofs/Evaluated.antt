-- The work of `ceval` on its input, from what it did with the program of the source.
use Rattle.std.proofs.Common.{ℕ, List}
use Rattle.std.specs.declared.option.Option.{Option}
use Rattle.c_meaning.specs.Units.{CoreUnit}
use Rattle.command_words.specs.declared.ceval_options.CevalOptions.{CevalOptions}
use Rattle.input_parts.specs.InputMark.{IsParted}
use Rattle.outcomes.specs.declared.outcome.Outcome.{Outcome}
use Rattle.outcomes.specs.declared.outcome.Outcome.TheVariants as outcome
use Rattle.outcomes.specs.Work.{DidWork}
use Rattle.ceval_tool.specs.Evaluation.{IsCoreOf, IsEvaluation, RefusesCeval}
use Rattle.ceval_tool.specs.ProgramRan.{ProgramRan}

-- the program of a source was run
pub evaluated : (o : CevalOptions) (core : CoreUnit) (input source bytes : List ℕ) (taken taken_after : Option (List ℕ)) (faults faults_after : ℕ) (out : Outcome) → IsParted input source bytes → IsCoreOf source core → ProgramRan o core bytes taken taken_after faults faults_after out → DidWork (IsEvaluation o input) (RefusesCeval input) taken taken_after faults faults_after out
evaluated o core input source bytes taken taken_after faults faults_after (outcome.Done end) parted is (text, run, took, sound) =
    (text, record { source = source; bytes = bytes; parted = parted; core = core; is_core = is; run = run }, took, sound)
evaluated o core input source bytes taken taken_after faults faults_after (outcome.Refused why) parted is (none, kept, sound) = absurd none
evaluated o core input source bytes taken taken_after faults faults_after outcome.WriteFault parted is (end, text, run, part, rose) =
    (end, text, record { source = source; bytes = bytes; parted = parted; core = core; is_core = is; run = run }, part, rose)
evaluated o core input source bytes taken taken_after faults faults_after outcome.Memory parted is kept = kept
evaluated o core input source bytes taken taken_after faults faults_after out parted is none = absurd none
