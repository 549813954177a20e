-- Refusals that are one, apart from the line of a source that is cut and denotes no unit.
use Rattle.std.specs.Prelude.{◌≡◌, ◌⊎◌, ℕ}
use Rattle.outcomes.specs.declared.fault_name.FaultName.TheVariants.{NoParse}
use Rattle.outcomes.specs.declared.outcome.Refusal.{Refusal}
use Rattle.outcomes.specs.declared.outcome.Refusal.TheVariants.{Fault}

abbrev pub IsNoParse : Refusal → Type 0
IsNoParse why = (n : ℕ) × (why ≡ Fault n NoParse)

abbrev pub AreOne : Refusal → Refusal → Type 0
AreOne why other = (why ≡ other) ⊎ (IsNoParse why × IsNoParse other)
