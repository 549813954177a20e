use Rattle.forests.specs.Budgets.{with_calls}
use Rattle.forests.specs.Meaning.{call_of}
use Rattle.forests.proofs.lemmas.Kept.{evaluate_kept, calls_kept}
use Rattle.forests.proofs.laws.objects_keep_their_shapes.Goals as goal

pub returns-clause-trees : goal.returns-clause-trees
returns-clause-trees c = λ g s t p. evaluate_kept (with_calls s (call_of g)) (calls_kept g) t p

pub returns-clause-calls : goal.returns-clause-calls
returns-clause-calls c = calls_kept
