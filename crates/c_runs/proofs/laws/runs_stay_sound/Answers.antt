use Rattle.c_runs.proofs.lemmas.SoundCalls.{eval_sound, exec_sound, copies_stay_sound}
use Rattle.c_runs.proofs.SoundRuns.{run_sound, core_sound}
use Rattle.c_runs.proofs.Tame.{units_are_tame}
use Rattle.c_runs.proofs.laws.runs_stay_sound.Goals as goal

pub returns-clause-expressions : goal.returns-clause-expressions
returns-clause-expressions c = eval_sound

pub returns-clause-statements : goal.returns-clause-statements
returns-clause-statements c = exec_sound

pub returns-clause-runs : goal.returns-clause-runs
returns-clause-runs c = run_sound

pub returns-clause-units : goal.returns-clause-units
returns-clause-units c = units_are_tame

pub returns-clause-checked : goal.returns-clause-checked
returns-clause-checked c = core_sound

pub returns-clause-copies : goal.returns-clause-copies
returns-clause-copies c = copies_stay_sound
