-- A row of cells as contracts see it.
use Rattle.std.specs.Prelude.{◌==◌, Option, Some, None, List, map, if◌then◌else◌}
use Rattle.place_queue.specs.declared.key.Key.{Key}
use Rattle.lburg_tables.specs.declared.cell.Cell.{Cell}

-- the rule number 0 says that there is no derivation
abbrev pub seen : Cell → Option Cell
seen c = if c.rule == 0 then None else Some c

abbrev pub row_of : List Cell → List (Option Cell)
row_of cells = map seen cells

-- a cell's cost and count
abbrev pub key_of : Option Cell → Option Key
key_of None = None
key_of (Some c) = Some (record { cost = c.cost; count = c.count })

-- each cell waits with its cost and count
abbrev pub waiting_of : List (Option Cell) → List (Option Key)
waiting_of row = map key_of row
