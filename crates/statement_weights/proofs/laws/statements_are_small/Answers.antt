use Rattle.statement_weights.proofs.lemmas.Statements.{statements_add_few, functions_weigh_little, functions_are_small}
use Rattle.statement_weights.proofs.laws.statements_are_small.Goals as goal

pub returns-clause-statements : goal.returns-clause-statements
returns-clause-statements c = statements_add_few

pub returns-clause-functions : goal.returns-clause-functions
returns-clause-functions c = functions_weigh_little

pub returns-clause-sizes : goal.returns-clause-sizes
returns-clause-sizes c = functions_are_small
