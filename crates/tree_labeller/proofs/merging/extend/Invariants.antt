use Rattle.std.proofs.Common.{◌≡◌, ◌+◌}
use Rattle.lburg_tables.specs.RowOf.{row_of}
use Rattle.tree_labeller.specs.Merged.{Extended}
use Rattle.tree_labeller.proofs.merging.extend.Given as goal

abbrev pub invariant-loop-chain : goal.invariant-loop-chain
invariant-loop-chain g l = record {
  extended : Extended l.chains l.from l.chain-index (row_of l.initial.row) (row_of l.row);
  steps : l.steps ≡ l.initial.steps + l.chain-index;
}
