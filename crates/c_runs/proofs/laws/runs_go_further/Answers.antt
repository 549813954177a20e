use Rattle.c_runs.proofs.Further.{runs_go_further, outputs_grow, depths_grow}
use Rattle.c_runs.proofs.laws.runs_go_further.Goals as goal

pub returns-clause-runs : goal.returns-clause-runs
returns-clause-runs c = runs_go_further

pub returns-clause-outputs : goal.returns-clause-outputs
returns-clause-outputs c = outputs_grow

pub returns-clause-depths : goal.returns-clause-depths
returns-clause-depths c = depths_grow
