use Rattle.dag_forest.proofs.RootLaws.{AreFirst}
use Rattle.dag_forest.proofs.roots.first_roots.Given as goal

abbrev pub invariant-loop-id : goal.invariant-loop-id
invariant-loop-id l = AreFirst l.entries.values l.id l.first.items l.node l.root
