use Rattle.c_runs.proofs.lemmas.AlikeCalls.{eval_traces, exec_traces}
use Rattle.c_runs.proofs.laws.traces_grow.Goals as goal

pub returns-clause-expressions : goal.returns-clause-expressions
returns-clause-expressions c = eval_traces

pub returns-clause-statements : goal.returns-clause-statements
returns-clause-statements c = exec_traces
