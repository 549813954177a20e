use Rattle.c_stmts_agree.proofs.lemmas.Induction.{statement_agrees, sequence_agrees}
use Rattle.c_stmts_agree.proofs.laws.statements_agree.Goals as goal

pub returns-clause-statements : goal.returns-clause-statements
returns-clause-statements c p frame once f e ending x y breaks continues ways t h within b le tables final =
    statement_agrees c.narrow_operators_give_narrow_words.ensures.chars c.narrow_operators_give_narrow_words.ensures.shorts c.split_trees_mean.ensures.turns c.runs_stay_sound.ensures.expressions p frame once f e ending t h x y breaks continues ways within b le tables final

pub returns-clause-sequences : goal.returns-clause-sequences
returns-clause-sequences c p frame once f e ending x y breaks continues ways ts h within b le tables final =
    sequence_agrees c.narrow_operators_give_narrow_words.ensures.chars c.narrow_operators_give_narrow_words.ensures.shorts c.split_trees_mean.ensures.turns c.runs_stay_sound.ensures.expressions p frame once f e ending ts h x y breaks continues ways within b le tables final
