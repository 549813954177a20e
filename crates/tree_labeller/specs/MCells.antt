-- What cells keep: room for so many nonterminals, and a row for each node that there is room for.
use Rattle.std.specs.Prelude.{◌≡◌, ℕ, List, length}
use Rattle.tree_labeller.specs.Rows.{Row}

pub record MCells : Type 0 where
  pub nonterminals : ℕ
  pub rows : List Row

-- how many nodes there is room for
abbrev pub room : MCells → ℕ
room c = length c.rows

-- there is room for exactly so many nodes and nonterminals
abbrev pub HasRoom : MCells → ℕ → ℕ → Type 0
HasRoom c nodes nonterminals = (room c ≡ nodes) × (c.nonterminals ≡ nonterminals)
