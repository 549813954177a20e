use Rattle.c_straight_agree.proofs.lemmas.Laws.{templates_answer}
use Rattle.c_straight_agree.proofs.laws.templates_answer.Goals as goal

pub returns : goal.returns
returns c = templates_answer c.narrow_operators_give_narrow_words.ensures.chars c.narrow_operators_give_narrow_words.ensures.shorts
