use Rattle.std.proofs.Common.{◌≡◌, ℕ, [], length}
use Rattle.lburg_tables.specs.IsIndex.{places_in}
use Rattle.lburg_tables.proofs.index.empty_lists.Given as goal

abbrev pub invariant-loop : goal.invariant-loop
invariant-loop l = record {
  many : length l.lists.items ≡ l.counter;
  empty : (n : ℕ) → places_in l.lists.items n ≡ [];
}
