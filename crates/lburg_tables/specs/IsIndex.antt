-- Each list of an index has the places of the rules with its root, and each rule's root has a list.
use Rattle.std.specs.Prelude.{◌≡◌, ℕ, List, [], slice_index_or}
use Rattle.lburg_model.specs.declared.rule.Rule.{Rule}
use Rattle.lburg_tables.specs.Root.{Chain, Operator, places_with}
use Rattle.lburg_tables.specs.declared.index.Index.{Index}

abbrev pub places_in : List (List ℕ) → ℕ → List ℕ
places_in lists n = slice_index_or lists n []

pub record IsIndex (rules : List Rule) (index : Index) : Type 0 where
  pub operators : (op : ℕ) → places_in index.operators.items op ≡ places_with (Operator op) rules
  pub chains : (n : ℕ) → places_in index.chains.items n ≡ places_with (Chain n) rules
