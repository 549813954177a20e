use Rattle.std.proofs.Common.{◌≡◌, ℕ, true, drop, nat_eq}
use Rattle.std.specs.Prelude.{is_some}
use Rattle.indexmap.specs.IndexMap.{get}
use Rattle.c_meaning.specs.Units.{are_apart, is_among, numbers}
use Rattle.statement_steps.proofs.cases.keep_apart.Given as goal

abbrev pub invariant-loop-place : goal.invariant-loop-place
invariant-loop-place l =
    (are_apart (numbers (drop l.place l.cases)) ≡ true)
    × ((n : ℕ) → is_some (get nat_eq l.places n) ≡ is_among n (numbers (drop l.place l.cases)))
