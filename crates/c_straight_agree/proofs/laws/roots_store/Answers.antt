use Rattle.c_straight_agree.proofs.lemmas.Laws.{roots_store}
use Rattle.c_straight_agree.proofs.laws.roots_store.Goals as goal

pub returns : goal.returns
returns c = roots_store c.narrow_operators_give_narrow_words.ensures.chars c.narrow_operators_give_narrow_words.ensures.shorts
