use Rattle.c_stores_agree.proofs.lemmas.Returning.{structure_return_agrees}
use Rattle.c_stores_agree.proofs.laws.structures_are_returned.Goals as goal

pub returns : goal.returns
returns c p frame f e is copies x v y l le final =
    structure_return_agrees c.narrow_operators_give_narrow_words.ensures.chars c.narrow_operators_give_narrow_words.ensures.shorts c.split_trees_mean.ensures.turns c.runs_stay_sound.ensures.expressions p frame f e copies x v y l le is final
