-- TooLarge: the 65,536th node of a tree.
use Rattle.std.specs.Prelude.{◌≡◌, ◌≤◌, ℕ, ◌+◌, Some, List, take, slice_get}
use Rattle.lburg_lines.specs.Tokens.{Tok, Word}
use Rattle.lburg_trees.specs.Counts.{names_among}
use Rattle.lburg_trees.specs.Setting.{Before}

abbrev pub IsTooLarge : Before → List Tok → ℕ → Type 0
IsTooLarge before tokens place = (name : List ℕ) × (slice_get tokens place ≡ Some (Word name)) × (65535 ≤ before.names + names_among (take place tokens))
