use Rattle.c_straight_agree.proofs.lemmas.StraightExpressions.{straight_expressions_agree}
use Rattle.c_straight_agree.proofs.laws.straight_expressions_agree.Goals as goal

pub returns : goal.returns
returns c = straight_expressions_agree c.narrow_operators_give_narrow_words.ensures.chars c.narrow_operators_give_narrow_words.ensures.shorts c.runs_stay_sound.ensures.expressions
