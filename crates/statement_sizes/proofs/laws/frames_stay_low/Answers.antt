use Rattle.statement_sizes.proofs.lemmas.Lowest.{statements_stay_low, functions_stay_low}
use Rattle.statement_sizes.proofs.laws.frames_stay_low.Goals as goal

pub returns-clause-statements : goal.returns-clause-statements
returns-clause-statements c = statements_stay_low

pub returns-clause-functions : goal.returns-clause-functions
returns-clause-functions c = functions_stay_low
