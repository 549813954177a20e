-- What the closing of a row needs of rules, where a row has this many cells.
use Rattle.std.specs.Prelude.{◌≡◌, ℕ, ◌-◌, ◌<◌, ◌^◌, Some, List, length, slice_get}
use Rattle.lburg_model.specs.declared.rule.Rule.{Rule}
use Rattle.lburg_tables.specs.Row.{AreCheap}

pub record AreRules (rules : List Rule) (width : ℕ) : Type 0 where
  pub lefts : (i : ℕ) (r : Rule) → slice_get rules i ≡ Some r → r.left < width
  pub named : (i : ℕ) (r : Rule) → slice_get rules i ≡ Some r → r.left < 2 ^ 16
  pub few : length rules < 2 ^ 16
  pub narrow : width < 2 ^ 32 - 1
  pub cheap : AreCheap rules
