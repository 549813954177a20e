use Rattle.memory_map.proofs.lemmas.Starting.{units_numbered, main_lies, main_handed}
use Rattle.memory_map.proofs.laws.main_begins.Goals as goal

pub returns-clause-numbered : goal.returns-clause-numbered
returns-clause-numbered c = units_numbered

pub returns-clause-lies : goal.returns-clause-lies
returns-clause-lies c = main_lies

pub returns-clause-handed : goal.returns-clause-handed
returns-clause-handed c = main_handed
