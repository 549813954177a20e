-- The rule that makes a cell, and a measure of what is left below it.
use Rattle.std.specs.Prelude.{◌≡◌, ◌≢◌, ◌≤◌, ◌<◌, ◌-◌, length, ℕ, ◌+◌, ◌*◌, Option, Some, None, List, [], ◌∷◌, slice_get}
use Rattle.place_queue.specs.declared.key.Key.{Key}
use Rattle.lburg_tables.specs.declared.cell.Cell.{Cell}
use Rattle.tree_labeller.specs.Rows.{Row}
use Rattle.lburg_model.specs.declared.rule.Rule.{Rule}
use Rattle.lburg_model.specs.Tree.{MTree}
use Rattle.lburg_model.specs.Pattern.{MPattern, PHole, PLeaf, POne, PTwo, pattern_of}
use Rattle.tree_labeller.specs.Labelled.{cell, total}

-- a measure: the rules that are still to come, and the pattern that is left
abbrev pub cell_count : Option Cell → ℕ
cell_count None = 0
cell_count (Some c) = c.count

abbrev pub key_count : Option Key → ℕ
key_count None = 0
key_count (Some k) = k.count

abbrev pub pattern_size : MPattern → ℕ
pattern_size (PHole n) = 1
pattern_size (PLeaf op) = 1
pattern_size (POne op p) = pattern_size p + 1
pattern_size (PTwo op p q) = pattern_size p + pattern_size q + 1

abbrev pub biggest : List Rule → ℕ
biggest [] = 1
biggest (r ∷ rs) = pattern_size (pattern_of r.pattern) + 1 + biggest rs

-- the rule of this number makes the cell, and what it needs is a smaller task
pub record Chosen (rows : List Row) (d : List Rule) (n : ℕ) (t : MTree) (at number : ℕ) : Type 0 where
  pub first : 1 ≤ number
  pub within : number ≤ length d
  pub is_rule : (c : Cell) → cell rows at n ≡ Some c → c.rule ≡ number
  pub fits : (r : Rule) → slice_get d (number - 1) ≡ Some r → total rows (pattern_of r.pattern) t at ≢ None
  pub smaller : (r : Rule) → slice_get d (number - 1) ≡ Some r → key_count (total rows (pattern_of r.pattern) t at) * biggest d + pattern_size (pattern_of r.pattern) < cell_count (cell rows at n) * biggest d
