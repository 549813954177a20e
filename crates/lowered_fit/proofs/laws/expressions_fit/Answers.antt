use Rattle.lowered_fit.proofs.lemmas.ExpressionsFit.{expressions_fit, tests_fit}
use Rattle.lowered_fit.proofs.laws.expressions_fit.Goals as goal

pub returns-clause-values : goal.returns-clause-values
returns-clause-values c = expressions_fit

pub returns-clause-tests : goal.returns-clause-tests
returns-clause-tests c = tests_fit
