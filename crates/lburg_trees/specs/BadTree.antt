-- BadTree: the line is neither blank nor a tree by the grammar. It stands at the first token that can't go on, or at the line's
-- end where one is missing.
use Rattle.std.specs.Prelude.{◌≡◌, ℕ, List, length}
use Rattle.lcc_text.specs.Stops.{StopsAt}
use Rattle.lburg_lines.specs.Tokens.{Tok}
use Rattle.lburg_trees.specs.TailTree.{IsTreeLine}

abbrev pub IsBadTree : List Tok → ℕ → Type 0
IsBadTree tokens place = (rest : List Tok) × (s : StopsAt IsTreeLine tokens rest) × (length s.front ≡ place)
