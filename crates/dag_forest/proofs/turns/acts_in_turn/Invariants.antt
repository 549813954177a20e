use Rattle.std.proofs.Common.{map}
use Rattle.dag_forest.proofs.TurnLaws.{AreTurned}
use Rattle.dag_forest.proofs.turns.acts_in_turn.Given as goal

abbrev pub invariant-loop-id : goal.invariant-loop-id
invariant-loop-id l = AreTurned l.entries.values l.id l.acts.items l.waiting.first.items l.waiting.waits.items (map (λ z. z.items) l.waiting.lists.items) l.waiting.passed
