-- How a run of so many steps ends, and what it did to the output.
use Rattle.std.specs.Prelude.{◌≡◌, ℕ, ◌-◌, ◌≤◌, List}
use Rattle.std.specs.declared.option.Option.{Option}
use Rattle.std.specs.Io.KnownBytes.{Appends}
use Rattle.lcc_base.specs.Faults.{Rose}
use Rattle.lcc_base.specs.Taken.{TookPrefix}
use Rattle.asm_text.specs.Runs.{Run, Place, Ended, Stuck, StackOut, IsGoing}
use Rattle.outcomes.specs.declared.outcome.End.{End}
use Rattle.outcomes.specs.declared.outcome.End.TheVariants as ends
use Rattle.outcomes.specs.declared.outcome.Outcome.{Outcome}
use Rattle.outcomes.specs.declared.outcome.Outcome.TheVariants as outcome

-- the run is at a place after so many steps, having printed this text
abbrev pub IsAt : {S : Type 0} → (ℕ → Run S) → ℕ → List ℕ → Place S → Type 0
IsAt run steps text place = run steps ≡ record { printed = text; place = place }

-- the run stops in this step: it was going before, and is at this place from then on
pub record StopsIn {S : Type 0} (run : ℕ → Run S) (step : ℕ) (place : Place S) : Type 0 where
  pub some : 1 ≤ step
  pub before : IsGoing (run (step - 1)).place
  pub after : (run step).place ≡ place

-- a run of so many steps has printed this text, and ends so
abbrev pub RunEnds : {S : Type 0} → (ℕ → Run S) → ℕ → List ℕ → End → Type 0
RunEnds run steps text (ends.Exited status) = IsAt run steps text (Ended status)
RunEnds run steps text (ends.Stuck cause pc step) = IsAt run steps text (Stuck cause pc) × StopsIn run step (Stuck cause pc)
RunEnds run steps text (ends.StackOut pc step) = IsAt run steps text (StackOut pc) × StopsIn run step (StackOut pc)
RunEnds {S} run steps text (ends.OutOfSteps n) = (n ≡ steps) × ((place : Place S) × IsGoing place × IsAt run steps text place)
RunEnds run steps text end = ⊥

-- the output took what a run of so many steps prints, or a first part of it where a write failed; it takes no memory
abbrev pub HasRun : {S : Type 0} → (ℕ → Run S) → ℕ → Option (List ℕ) → Option (List ℕ) → ℕ → ℕ → Outcome → Type 0
HasRun run steps taken taken_after faults faults_after (outcome.Done end) = (text : List ℕ) × RunEnds run steps text end × Appends taken taken_after text × (faults_after ≡ faults)
HasRun run steps taken taken_after faults faults_after outcome.WriteFault = TookPrefix taken taken_after (run steps).printed × Rose faults faults_after
HasRun run steps taken taken_after faults faults_after o = ⊥
