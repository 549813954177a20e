use Rattle.std.proofs.Common.{◌≡◌, ◌+◌}
use Rattle.lburg_tables.specs.Row.{Spread, Among}
use Rattle.lburg_tables.specs.RowOf.{row_of}
use Rattle.lburg_tables.specs.Waits.{Matches}
use Rattle.lburg_tables.proofs.closing.spread.Given as goal

abbrev pub invariant-loop-k : goal.invariant-loop-k
invariant-loop-k g l = record {
  spread : Spread l.node.rules.now l.node.constant l.m l.from (row_of l.initial.row) l.initial.queue (row_of l.row) l.queue (Among l.places l.k);
  matches : Matches (row_of l.row) l.queue;
  steps : l.steps ≡ l.initial.steps + l.k;
}
