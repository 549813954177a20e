use Rattle.expression_weights.proofs.lemmas.Small.{expressions_are_small, values_add_few, tests_add_few}
use Rattle.expression_weights.proofs.laws.expressions_are_small.Goals as goal

pub returns-clause-handed : goal.returns-clause-handed
returns-clause-handed c = expressions_are_small

pub returns-clause-values : goal.returns-clause-values
returns-clause-values c = values_add_few

pub returns-clause-tests : goal.returns-clause-tests
returns-clause-tests c = tests_add_few
