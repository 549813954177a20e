use Rattle.c_runs.proofs.Apart.{calls_stand_alone}
use Rattle.c_runs.proofs.laws.calls_stand_alone.Goals as goal

pub returns : goal.returns
returns c = calls_stand_alone
