use Rattle.lowered_sizes.proofs.lemmas.Lowest.{expressions_stay_low, tests_stay_low}
use Rattle.lowered_sizes.proofs.laws.frames_stay_low.Goals as goal

pub returns-clause-expressions : goal.returns-clause-expressions
returns-clause-expressions c = expressions_stay_low

pub returns-clause-tests : goal.returns-clause-tests
returns-clause-tests c = tests_stay_low
