use Rattle.std.proofs.Common.{◌≡◌, ◌<◌, ℕ, [], length}
use Rattle.std.specs.Prelude.{slice_index_or}
use Rattle.lburg_tables.specs.BestChains.{AreBest}
use Rattle.lburg_tables.specs.Waits.{IsIdle}
use Rattle.lburg_tables.proofs.chains.best_of_each.Given as goal

abbrev pub invariant-loop-from : goal.invariant-loop-from
invariant-loop-from g l = record {
  idle : IsIdle l.width l.queue;
  wide : length l.row.items ≡ l.width;
  many : length l.table.items ≡ l.from;
  best : (m : ℕ) → m < l.from → AreBest l.d m (slice_index_or l.table.items m []);
}
