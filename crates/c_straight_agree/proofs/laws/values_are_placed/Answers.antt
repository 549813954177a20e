use Rattle.c_straight_agree.proofs.lemmas.Laws.{values_are_placed}
use Rattle.c_straight_agree.proofs.laws.values_are_placed.Goals as goal

pub returns : goal.returns
returns c = values_are_placed c.narrow_operators_give_narrow_words.ensures.chars c.narrow_operators_give_narrow_words.ensures.shorts
