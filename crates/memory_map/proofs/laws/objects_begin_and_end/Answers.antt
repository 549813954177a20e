use Rattle.memory_map.proofs.lemmas.New.{grown_extended, new_lies}
use Rattle.memory_map.proofs.lemmas.Ended.{ended_lies, call_ends}
use Rattle.memory_map.proofs.lemmas.Entering.{enter_lies, call_homed, homes_stay}
use Rattle.memory_map.proofs.lemmas.Beginning.{start_lies}
use Rattle.memory_map.proofs.laws.objects_begin_and_end.Goals as goal

pub returns-clause-maps : goal.returns-clause-maps
returns-clause-maps c = grown_extended

pub returns-clause-begun : goal.returns-clause-begun
returns-clause-begun c = new_lies

pub returns-clause-ended : goal.returns-clause-ended
returns-clause-ended c = ended_lies

pub returns-clause-entered : goal.returns-clause-entered
returns-clause-entered c = enter_lies

pub returns-clause-homed : goal.returns-clause-homed
returns-clause-homed c = call_homed

pub returns-clause-stay : goal.returns-clause-stay
returns-clause-stay c = homes_stay

pub returns-clause-left : goal.returns-clause-left
returns-clause-left c = call_ends

pub returns-clause-units : goal.returns-clause-units
returns-clause-units c = start_lies
