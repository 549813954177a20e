use Rattle.std.proofs.Common.{ℕ, ◌<◌}
use Rattle.lburg_tables.specs.declared.cell.Cell.{Cell}
use Rattle.lburg_tables.specs.Row.{CellAt}
use Rattle.lburg_tables.specs.RowOf.{row_of}
use Rattle.lburg_tables.proofs.cell.clear_row.Given as goal

abbrev pub invariant-loop-n : goal.invariant-loop-n
invariant-loop-n l = (m : ℕ) (c : Cell) → m < l.n → CellAt (row_of l.row) m c → ⊥
