-- What the work on an input did to the output, apart from reading the input. The states are what the output had taken
-- before and after, and its counts of faults.
use Rattle.std.specs.Prelude.{ℕ, ◌≡◌, List}
use Rattle.std.specs.declared.option.Option.{Option}
use Rattle.std.specs.Io.KnownBytes.{Appends, Keeps}
use Rattle.lcc_base.specs.Faults.{Rose}
use Rattle.lcc_base.specs.Taken.{TookPrefix}
use Rattle.outcomes.specs.declared.outcome.End.{End}
use Rattle.outcomes.specs.declared.outcome.Refusal.{Refusal}
use Rattle.outcomes.specs.declared.outcome.Outcome.{Outcome}
use Rattle.outcomes.specs.declared.outcome.Outcome.TheVariants as outcome
use Rattle.outcomes.specs.Behaviour.{Behaviour, IsDone, IsRefused}

-- Work that may write these texts, each with its end, or refuse for these reasons: the output took the whole text, or a
-- first part of one where a write failed, or nothing.
abbrev pub DidWork : (End → List ℕ → Type 0) → (Refusal → Type 0) → Option (List ℕ) → Option (List ℕ) → ℕ → ℕ → Outcome → Type 0
DidWork writes refuses taken taken_after faults faults_after (outcome.Done end) = (text : List ℕ) × writes end text × Appends taken taken_after text × (faults_after ≡ faults)
DidWork writes refuses taken taken_after faults faults_after (outcome.Refused why) = refuses why × Keeps taken taken_after × (faults_after ≡ faults)
DidWork writes refuses taken taken_after faults faults_after outcome.WriteFault =
    (end : End) × (text : List ℕ) × writes end text × TookPrefix taken taken_after text × Rose faults faults_after
DidWork writes refuses taken taken_after faults faults_after outcome.Memory = Keeps taken taken_after × (faults_after ≡ faults)
DidWork writes refuses taken taken_after faults faults_after o = ⊥

-- a command's work on an input
abbrev pub IsWorked : Behaviour → List ℕ → Option (List ℕ) → Option (List ℕ) → ℕ → ℕ → Outcome → Type 0
IsWorked b input = DidWork (IsDone b input) (IsRefused b input)

-- a whole text was written by work that ends so, or a write failed
abbrev pub HasWritten : End → List ℕ → Option (List ℕ) → Option (List ℕ) → ℕ → ℕ → Outcome → Type 0
HasWritten end text taken taken_after faults faults_after (outcome.Done e) = (e ≡ end) × Appends taken taken_after text × (faults_after ≡ faults)
HasWritten end text taken taken_after faults faults_after outcome.WriteFault = TookPrefix taken taken_after text × Rose faults faults_after
HasWritten end text taken taken_after faults faults_after o = ⊥
