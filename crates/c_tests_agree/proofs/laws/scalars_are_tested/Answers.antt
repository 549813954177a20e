use Rattle.c_tests_agree.proofs.lemmas.Valuing.{plain_is_tested}
use Rattle.c_tests_agree.proofs.laws.scalars_are_tested.Goals as goal

pub returns : goal.returns
returns c = plain_is_tested c.narrow_operators_give_narrow_words.ensures.chars c.narrow_operators_give_narrow_words.ensures.shorts c.split_trees_mean.ensures.turns c.runs_stay_sound.ensures.expressions
