use Rattle.lburg_tables.specs.RowOf.{row_of}
use Rattle.lburg_tables.proofs.Waiting.{WaitsTo}
use Rattle.lburg_tables.proofs.closing.wait_all.Given as goal

abbrev pub invariant-loop-n : goal.invariant-loop-n
invariant-loop-n l = WaitsTo (row_of l.row) l.n l.queue
