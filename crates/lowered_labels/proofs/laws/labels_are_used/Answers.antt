use Rattle.lowered_labels.proofs.lemmas.KnownStatements.{functions_are_known, statement_known}
use Rattle.lowered_labels.proofs.laws.labels_are_used.Goals as goal

pub returns-clause-statements : goal.returns-clause-statements
returns-clause-statements c = statement_known

pub returns-clause-functions : goal.returns-clause-functions
returns-clause-functions c = functions_are_known
