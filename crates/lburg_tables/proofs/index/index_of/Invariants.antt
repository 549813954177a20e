use Rattle.std.proofs.Common.{◌≡◌, ℕ, ◌+◌, length, take}
use Rattle.lburg_tables.specs.Root.{Chain, Operator, places_with}
use Rattle.lburg_tables.specs.IsIndex.{places_in}
use Rattle.lburg_tables.proofs.index.index_of.Given as goal

abbrev pub invariant-loop-place : goal.invariant-loop-place
invariant-loop-place l = record {
  operators_many : length l.index.operators.items ≡ length l.d.terminals + 1;
  chains_many : length l.index.chains.items ≡ length l.d.nonterminals;
  operators : (op : ℕ) → places_in l.index.operators.items op ≡ places_with (Operator op) (take l.place l.rules);
  chains : (n : ℕ) → places_in l.index.chains.items n ≡ places_with (Chain n) (take l.place l.rules);
}
