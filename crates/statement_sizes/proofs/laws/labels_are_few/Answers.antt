use Rattle.statement_sizes.proofs.lemmas.Statements.{labels_are_few, function_labels_are_few}
use Rattle.statement_sizes.proofs.laws.labels_are_few.Goals as goal

pub returns-clause-statements : goal.returns-clause-statements
returns-clause-statements c = labels_are_few

pub returns-clause-functions : goal.returns-clause-functions
returns-clause-functions c = function_labels_are_few
