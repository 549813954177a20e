use Rattle.lburg_tables.specs.Listed.{Listed}
use Rattle.lburg_tables.specs.RowOf.{row_of}
use Rattle.lburg_tables.proofs.chains.list_chains.Given as goal

abbrev pub invariant-loop-to : goal.invariant-loop-to
invariant-loop-to l = Listed (row_of l.row) l.from l.to l.chains
