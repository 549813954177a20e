-- TooHigh: a parenthesis opens while 499 are open.
use Rattle.std.specs.Prelude.{◌≡◌, ◌≤◌, ℕ, Some, List, take, slice_get}
use Rattle.lburg_lines.specs.declared.token.Sign.TheVariants.{Open}
use Rattle.lburg_lines.specs.Tokens.{Tok, Mark}
use Rattle.lburg_trees.specs.Counts.{open_behind}
use Rattle.lburg_trees.specs.Setting.{Before}

abbrev pub IsTooHigh : Before → List Tok → ℕ → Type 0
IsTooHigh before tokens place = (slice_get tokens place ≡ Some (Mark Open)) × (499 ≤ open_behind before.opened (take place tokens))
