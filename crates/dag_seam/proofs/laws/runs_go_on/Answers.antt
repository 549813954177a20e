use Rattle.dag_seam.proofs.lemmas.Runs.{block_runs, runs_append, runs_stop}
use Rattle.dag_seam.proofs.lemmas.UsedRuns.{runs_used}
use Rattle.dag_seam.proofs.laws.runs_go_on.Goals as goal

pub returns-clause-further : goal.returns-clause-further
returns-clause-further c s keeps = runs_append s keeps

pub returns-clause-stopped : goal.returns-clause-stopped
returns-clause-stopped c s keeps = runs_stop s keeps

pub returns-clause-used : goal.returns-clause-used
returns-clause-used c s keeps = runs_used s keeps

pub returns-clause-blocks : goal.returns-clause-blocks
returns-clause-blocks c s keeps = block_runs s keeps
