use Rattle.lowered_statements.proofs.lemmas.Adding.{functions_add, statements_add}
use Rattle.lowered_statements.proofs.laws.statements_add.Goals as goal

pub returns-clause-statements : goal.returns-clause-statements
returns-clause-statements c = statements_add

pub returns-clause-functions : goal.returns-clause-functions
returns-clause-functions c = functions_add
