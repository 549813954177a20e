-- What a command's work did, from what its writing did and from the law that an input isn't both worked on and refused.
use Rattle.std.proofs.Common.{ℕ, List, subst, sym}
use Rattle.std.specs.declared.option.Option.{Option}
use Rattle.outcomes.specs.declared.outcome.End.{End}
use Rattle.outcomes.specs.declared.outcome.Refusal.{Refusal}
use Rattle.outcomes.specs.declared.outcome.Outcome.{Outcome}
use Rattle.outcomes.specs.declared.outcome.Outcome.TheVariants as outcome
use Rattle.outcomes.specs.Behaviour.{Behaviour, IsApart}
use Rattle.outcomes.specs.Work.{DidWork, IsWorked, HasWritten}

-- a text that may be written was written
pub did_write : (writes : End → List ℕ → Type 0) (refuses : Refusal → Type 0) (end : End) (text : List ℕ) (taken taken_after : Option (List ℕ)) (faults faults_after : ℕ) (o : Outcome) → writes end text → HasWritten end text taken taken_after faults faults_after o → DidWork writes refuses taken taken_after faults faults_after o
did_write writes refuses end text taken taken_after faults faults_after (outcome.Done e) may (is, took, sound) = (text, subst (λ x. writes x text) (sym is) may, took, sound)
did_write writes refuses end text taken taken_after faults faults_after (outcome.Refused why) may none = absurd none
did_write writes refuses end text taken taken_after faults faults_after outcome.Usage may none = absurd none
did_write writes refuses end text taken taken_after faults faults_after outcome.ReadFault may none = absurd none
did_write writes refuses end text taken taken_after faults faults_after outcome.WriteFault may (part, rose) = (end, text, may, part, rose)
did_write writes refuses end text taken taken_after faults faults_after outcome.Memory may none = absurd none
did_write writes refuses end text taken taken_after faults faults_after outcome.InputTooLong may none = absurd none

-- what is written is written where no refusal stands, and what is refused is refused where nothing is to be written
pub worked : (b : Behaviour) (input : List ℕ) (taken taken_after : Option (List ℕ)) (faults faults_after : ℕ) (o : Outcome) → IsApart b → DidWork (b.Writes input) (b.Refuses input) taken taken_after faults faults_after o → IsWorked b input taken taken_after faults faults_after o
worked b input taken taken_after faults faults_after (outcome.Done end) apart (text, writes, took, sound) =
    (text, record { writes = writes; accepted = λ why refuses. apart input end text why writes refuses }, took, sound)
worked b input taken taken_after faults faults_after (outcome.Refused why) apart (refuses, kept, sound) =
    (record { refuses = refuses; nothing = λ end text writes. apart input end text why writes refuses }, kept, sound)
worked b input taken taken_after faults faults_after outcome.Usage apart none = absurd none
worked b input taken taken_after faults faults_after outcome.ReadFault apart none = absurd none
worked b input taken taken_after faults faults_after outcome.WriteFault apart (end, text, writes, part, rose) =
    (end, text, record { writes = writes; accepted = λ why refuses. apart input end text why writes refuses }, part, rose)
worked b input taken taken_after faults faults_after outcome.Memory apart kept = kept
worked b input taken taken_after faults faults_after outcome.InputTooLong apart none = absurd none
