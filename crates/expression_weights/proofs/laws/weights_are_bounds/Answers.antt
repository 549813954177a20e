use Rattle.expression_weights.proofs.lemmas.Steps.{bounds_hold, empty_weighs}
use Rattle.expression_weights.proofs.laws.weights_are_bounds.Goals as goal

pub returns-clause-bound : goal.returns-clause-bound
returns-clause-bound c = bounds_hold

pub returns-clause-empty : goal.returns-clause-empty
returns-clause-empty c = empty_weighs
