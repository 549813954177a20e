use Rattle.forests.proofs.lemmas.Moving.{evaluate_next, no_jump}
use Rattle.forests.proofs.laws.trees_go_on_behind.Goals as goal

pub returns-clause-next : goal.returns-clause-next
returns-clause-next c = evaluate_next

pub returns-clause-no_jump : goal.returns-clause-no_jump
returns-clause-no_jump c = no_jump
