-- Rows that are filled from base rows.
use Rattle.std.specs.Prelude.{◌≡◌, ℕ, ℤ, Option, List, length, slice_set}
use Rattle.lburg_model.specs.Description.{MDescription}
use Rattle.lburg_tables.specs.declared.cell.Cell.{Cell}
use Rattle.lburg_tables.specs.Row.{Closed}
use Rattle.lburg_tables.specs.RowOf.{row_of}
use Rattle.tree_labeller.specs.Rows.{Row, with_row}
use Rattle.tree_labeller.specs.Tries.{ClosingTries}

-- from a place on, a list of cells has what so many tries make of a base row
pub record CellsFilled (d : MDescription) (constant : Option ℤ) (base : List Cell) (start : ℕ) (old new : List Cell) (tries : ℕ) : Type 0 where
  pub row : List Cell
  pub long : length row ≡ length base
  pub closed : Closed d.rules constant (row_of base) (row_of row)
  pub tried : ClosingTries d (row_of base) (row_of row) tries
  pub stored : new ≡ with_row start (length base) old row

-- at a place, a list of rows has what so many tries make of a base row
pub record RowFilled (d : MDescription) (constant : Option ℤ) (base : List (Option Cell)) (at end : ℕ) (old new : List Row) (tries : ℕ) : Type 0 where
  pub cells : List (Option Cell)
  pub closed : Closed d.rules constant base cells
  pub tried : ClosingTries d base cells tries
  pub stored : new ≡ slice_set old at (record { end = end; cells = cells })
