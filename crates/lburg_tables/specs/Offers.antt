-- The rule of a place among rules, where it applies at a node with this constant, or with none.
use Rattle.std.specs.Prelude.{◌≡◌, ℕ, ℤ, Option, Some, List, slice_get}
use Rattle.lburg_model.specs.declared.rule.Rule.{Rule}
use Rattle.lburg_model.specs.Range.{IsMet}

abbrev pub Offers : List Rule → Option ℤ → ℕ → Rule → Type 0
Offers rules constant i r = (slice_get rules i ≡ Some r) × IsMet r.range constant
