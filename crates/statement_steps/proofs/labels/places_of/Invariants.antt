use Rattle.std.proofs.Common.{◌≡◌, ℕ, drop, nat_eq}
use Rattle.indexmap.specs.IndexMap.{get}
use Rattle.statement_steps.specs.Numbering.{first_among}
use Rattle.statement_steps.proofs.labels.places_of.Given as goal

abbrev pub invariant-loop-place : goal.invariant-loop-place
invariant-loop-place l = (n : ℕ) → get nat_eq l.places n ≡ first_among l.place (drop l.place l.labels) n
