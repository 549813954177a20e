-- What a search needs of rules.
use Rattle.std.specs.Prelude.{◌≡◌, ℕ, ◌≤◌, Some, List, length, slice_get}
use Rattle.lburg_model.specs.declared.rule.Rule.{Rule}
use Rattle.lburg_model.specs.Pattern.{pattern_of, pattern_nodes}

pub record AreRules (rules : List Rule) : Type 0 where
  pub few : length rules ≤ 4095
  pub cheap : (i : ℕ) (r : Rule) → slice_get rules i ≡ Some r → r.cost ≤ 32766
  pub short : (i : ℕ) (r : Rule) → slice_get rules i ≡ Some r → pattern_nodes (pattern_of r.pattern) ≤ 16
