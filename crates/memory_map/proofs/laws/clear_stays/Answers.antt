use Rattle.memory_map.proofs.lemmas.New.{clear_new}
use Rattle.memory_map.proofs.lemmas.Ended.{runs_fade, call_fades}
use Rattle.memory_map.proofs.lemmas.Clear.{set_same, set_less, set_fades}
use Rattle.memory_map.proofs.laws.clear_stays.Goals as goal

pub returns-clause-same : goal.returns-clause-same
returns-clause-same c = set_same

pub returns-clause-less : goal.returns-clause-less
returns-clause-less c = set_less

pub returns-clause-begun : goal.returns-clause-begun
returns-clause-begun c = clear_new

pub returns-clause-faded : goal.returns-clause-faded
returns-clause-faded c = set_fades

pub returns-clause-runs : goal.returns-clause-runs
returns-clause-runs c = runs_fade

pub returns-clause-calls : goal.returns-clause-calls
returns-clause-calls c = call_fades
