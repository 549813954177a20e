use Rattle.std.proofs.Common.{◌≡◌, length}
use Rattle.tree_labeller.proofs.board.empty_ends.Given as goal

abbrev pub invariant-loop : goal.invariant-loop
invariant-loop l = length l.ends.items ≡ l.counter
