use Rattle.statement_sizes.proofs.lemmas.Statements.{slots_are_few, function_slots_are_few}
use Rattle.statement_sizes.proofs.laws.slots_are_few.Goals as goal

pub returns-clause-statements : goal.returns-clause-statements
returns-clause-statements c = slots_are_few

pub returns-clause-functions : goal.returns-clause-functions
returns-clause-functions c = function_slots_are_few
