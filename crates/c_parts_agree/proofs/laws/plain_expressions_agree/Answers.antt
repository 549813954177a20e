use Rattle.c_parts_agree.proofs.lemmas.Plain.{plain_expressions_agree}
use Rattle.c_parts_agree.proofs.laws.plain_expressions_agree.Goals as goal

pub returns : goal.returns
returns c = plain_expressions_agree c.narrow_operators_give_narrow_words.ensures.chars c.narrow_operators_give_narrow_words.ensures.shorts c.runs_stay_sound.ensures.expressions
