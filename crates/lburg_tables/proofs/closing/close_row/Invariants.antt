use Rattle.std.proofs.Common.{◌≡◌, ◌-◌, ◌+◌, length}
use Rattle.lburg_tables.specs.RowOf.{row_of}
use Rattle.lburg_tables.proofs.Closure.{Closing, dones, chains_done}
use Rattle.lburg_tables.proofs.closing.close_row.Given as goal

abbrev pub invariant-loop-m : goal.invariant-loop-m
invariant-loop-m g l = record {
  closing : Closing l.node.rules.now l.node.constant (row_of l.initial.row) (row_of l.row) l.queue;
  steps : l.steps ≡ l.initial.steps + chains_done (row_of l.row) l.queue l.node.rules.now;
}

abbrev pub decreases-loop-m : goal.decreases-loop-m
decreases-loop-m g l = length l.row - dones (row_of l.row) l.queue
