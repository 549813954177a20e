use Rattle.std.proofs.Common.{◌≡◌, ◌++◌, drop}
use Rattle.lowered_units.specs.Tables.{table_objects}
use Rattle.c_lower_unit.proofs.tables.add_tables.Given as goal

abbrev pub invariant-loop-labels : goal.invariant-loop-labels
invariant-loop-labels l = l.into ++ table_objects l.function l.name (drop l.labels-index l.tables) ≡ l.fn.into ++ table_objects l.function l.first l.tables
