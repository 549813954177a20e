-- The cells of a row that wait for their chain rules.
use Rattle.std.specs.Prelude.{◌≡◌, ℕ, Option, Some, None, List, length, slice_index_or}
use Rattle.place_queue.specs.declared.key.Key.{Key}
use Rattle.lburg_tables.specs.declared.cell.Cell.{Cell}
use Rattle.lburg_tables.specs.RowOf.{key_of}

-- what waits is a cell of the row, with its cost and count
pub record Matches (row : List (Option Cell)) (waiting : List (Option Key)) : Type 0 where
  pub many : length waiting ≡ length row
  pub cells : (n : ℕ) (key : Key) → slice_index_or waiting n None ≡ Some key → key_of (slice_index_or row n None) ≡ Some key

-- no place waits
abbrev pub IsIdle : ℕ → List (Option Key) → Type 0
IsIdle width waiting = (length waiting ≡ width) × ((n : ℕ) → slice_index_or waiting n None ≡ None)
