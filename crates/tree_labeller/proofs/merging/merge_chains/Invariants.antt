use Rattle.std.proofs.Common.{◌≡◌, ◌+◌, ℕ, length}
use Rattle.lburg_tables.specs.RowOf.{row_of}
use Rattle.tree_labeller.specs.Merged.{Merged}
use Rattle.tree_labeller.specs.Trials.{ChainTrials}
use Rattle.tree_labeller.specs.Tries.{HasCell}
use Rattle.tree_labeller.proofs.merging.merge_chains.Given as goal

abbrev pub invariant-loop-m : goal.invariant-loop-m
invariant-loop-m g l = record {
  merged : Merged l.tables.rules (length l.tables.nonterminals) (row_of l.base) l.m (row_of l.row);
  steps : (n : ℕ) × ChainTrials l.tables (HasCell (row_of l.base)) l.m n × (l.steps ≡ l.initial.steps + n);
}
