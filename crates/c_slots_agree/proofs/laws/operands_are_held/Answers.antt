use Rattle.c_slots_agree.proofs.lemmas.Holding.{operands_are_held}
use Rattle.c_slots_agree.proofs.laws.operands_are_held.Goals as goal

pub returns : goal.returns
returns c = operands_are_held c.narrow_operators_give_narrow_words.ensures.chars c.narrow_operators_give_narrow_words.ensures.shorts
