use Rattle.c_stmts_agree.proofs.lemmas.Ends.{body_agrees}
use Rattle.c_stmts_agree.proofs.laws.bodies_agree.Goals as goal

pub returns : goal.returns
returns c p frame once f e ending there t h within b le tables is o k at =
    body_agrees p f there c.narrow_operators_give_narrow_words.ensures.chars c.narrow_operators_give_narrow_words.ensures.shorts c.split_trees_mean.ensures.turns c.runs_stay_sound.ensures.expressions frame once e ending t h within b le tables is o k at
