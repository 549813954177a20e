-- What the rows of cells keep, and what the filling of a row works on.
use Rattle.std.specs.Prelude.{◌≡◌, ℕ, ◌*◌, ◌-◌, ◌<◌, ◌^◌, Option, List, length}
use Rattle.place_queue.specs.declared.key.Key.{Key}
use Rattle.lburg_tables.specs.declared.cell.Cell.{Cell}
use Rattle.lburg_tables.specs.Waits.{IsIdle}
use Rattle.tree_labeller.specs.MCells.{MCells, room}

-- so few cells that a count of rules fits 32 bits
abbrev pub AreFew : ℕ → ℕ → Type 0
AreFew nodes width = nodes * width < 2 ^ 32 - 1

-- a row for each node
pub record IsBoard (width : ℕ) (ends : List ℕ) (cells : List Cell) : Type 0 where
  pub many : length cells ≡ length ends * width
  pub small : AreFew (length ends) width

pub record IsScratch (width : ℕ) (base : List Cell) (waiting : List (Option Key)) : Type 0 where
  pub started : length base ≡ width
  pub idle : IsIdle width waiting

pub record IsCells (board : MCells) (base : List Cell) (waiting : List (Option Key)) : Type 0 where
  pub scratch : IsScratch board.nonterminals base waiting
  pub small : AreFew (room board) board.nonterminals
  pub reach : room board < 2 ^ 64
