use Rattle.c_stmts_agree.proofs.lemmas.Returning.{empty_return_agrees, scalar_return_agrees}
use Rattle.c_stmts_agree.proofs.laws.returns_agree.Goals as goal

pub returns-clause-empty : goal.returns-clause-empty
returns-clause-empty c p frame f e zero y l le final =
    empty_return_agrees c.narrow_operators_give_narrow_words.ensures.chars c.narrow_operators_give_narrow_words.ensures.shorts c.split_trees_mean.ensures.turns p frame f e zero y l le final

pub returns-clause-scalars : goal.returns-clause-scalars
returns-clause-scalars c p frame f e is plain x v y l le final =
    scalar_return_agrees c.narrow_operators_give_narrow_words.ensures.chars c.narrow_operators_give_narrow_words.ensures.shorts c.split_trees_mean.ensures.turns p frame c.runs_stay_sound.ensures.expressions f e plain x v y l le is final
