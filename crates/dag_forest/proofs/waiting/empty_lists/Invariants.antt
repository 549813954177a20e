use Rattle.std.proofs.Common.{◌≡◌, [], map, replicate}
use Rattle.dag_forest.proofs.waiting.empty_lists.Given as goal

abbrev pub invariant-loop-number : goal.invariant-loop-number
invariant-loop-number l = map (λ z. z.items) l.lists.items ≡ replicate l._number []
