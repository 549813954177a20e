use Rattle.c_slots_agree.proofs.lemmas.Reads.{slots_stay}
use Rattle.c_slots_agree.proofs.laws.slots_stay.Goals as goal

pub returns : goal.returns
returns c = slots_stay
