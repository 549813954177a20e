use Rattle.c_runs.proofs.lemmas.AlikeCalls.{eval_falls, exec_falls}
use Rattle.c_runs.proofs.laws.turns_fall.Goals as goal

pub returns-clause-expressions : goal.returns-clause-expressions
returns-clause-expressions c = eval_falls

pub returns-clause-statements : goal.returns-clause-statements
returns-clause-statements c = exec_falls
