-- Rows of cells: a node's own row stands before those of its operands.
use Rattle.std.specs.Prelude.{ℕ, Option, List, [], ◌∷◌, ◌++◌, take, drop}
use Rattle.lburg_tables.specs.declared.cell.Cell.{Cell}
use Rattle.lburg_tables.specs.RowOf.{row_of}

-- a node's cells, one for each nonterminal, and the place after the rows of its subtree
pub record Row : Type 0 where
  pub end : ℕ
  pub cells : List (Option Cell)

-- the rows of this width that stand one behind another in a list of cells
abbrev pub rows_of : ℕ → List ℕ → List Cell → List Row
rows_of width [] cells = []
rows_of width (end ∷ ends) cells = record { end = end; cells = row_of (take width cells) } ∷ rows_of width ends (drop width cells)

-- the list with these cells, so many, from a place on
abbrev pub with_row : ℕ → ℕ → List Cell → List Cell → List Cell
with_row start width cells row = take start cells ++ (row ++ drop width (drop start cells))
