use Rattle.lowered_sizes.proofs.lemmas.Few.{slots_are_few, test_slots_are_few}
use Rattle.lowered_sizes.proofs.laws.slots_are_few.Goals as goal

pub returns-clause-expressions : goal.returns-clause-expressions
returns-clause-expressions c = slots_are_few

pub returns-clause-tests : goal.returns-clause-tests
returns-clause-tests c = test_slots_are_few
