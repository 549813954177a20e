use Rattle.c_slots_agree.proofs.lemmas.Storing.{slots_are_stored}
use Rattle.c_slots_agree.proofs.laws.slots_are_stored.Goals as goal

pub returns : goal.returns
returns c = slots_are_stored c.narrow_operators_give_narrow_words.ensures.chars c.narrow_operators_give_narrow_words.ensures.shorts
