use Rattle.c_calls_agree.proofs.lemmas.LoweredCalls.{valued_calls_are_lowered, void_calls_are_performed}
use Rattle.c_calls_agree.proofs.laws.calls_are_lowered.Goals as goal

pub returns-clause-valued : goal.returns-clause-valued
returns-clause-valued c =
    valued_calls_are_lowered c.narrow_operators_give_narrow_words.ensures.chars c.narrow_operators_give_narrow_words.ensures.shorts c.split_trees_mean.ensures.turns c.runs_stay_sound.ensures.expressions c.runs_stay_sound.ensures.copies c.locals_are_objects.ensures.each

pub returns-clause-void : goal.returns-clause-void
returns-clause-void c =
    void_calls_are_performed c.narrow_operators_give_narrow_words.ensures.chars c.narrow_operators_give_narrow_words.ensures.shorts c.split_trees_mean.ensures.turns c.runs_stay_sound.ensures.expressions c.runs_stay_sound.ensures.copies c.locals_are_objects.ensures.each
