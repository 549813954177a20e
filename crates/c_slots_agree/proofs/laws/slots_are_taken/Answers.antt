use Rattle.c_slots_agree.proofs.lemmas.Taken.{slots_are_taken}
use Rattle.c_slots_agree.proofs.laws.slots_are_taken.Goals as goal

pub returns : goal.returns
returns c = slots_are_taken
