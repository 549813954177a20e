use Rattle.lowered_sizes.proofs.lemmas.Few.{labels_are_few, test_labels_are_few}
use Rattle.lowered_sizes.proofs.laws.labels_are_few.Goals as goal

pub returns-clause-expressions : goal.returns-clause-expressions
returns-clause-expressions c = labels_are_few

pub returns-clause-tests : goal.returns-clause-tests
returns-clause-tests c = test_labels_are_few
