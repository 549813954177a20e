use Rattle.c_slots_agree.proofs.lemmas.Reads.{slots_are_read, slot_values_last}
use Rattle.c_slots_agree.proofs.laws.slots_are_read.Goals as goal

pub returns-clause-reads : goal.returns-clause-reads
returns-clause-reads c = slots_are_read

pub returns-clause-values : goal.returns-clause-values
returns-clause-values c = slot_values_last
