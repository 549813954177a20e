use Rattle.c_tests_agree.proofs.lemmas.Operands.{comparisons_are_tested}
use Rattle.c_tests_agree.proofs.laws.comparisons_are_tested.Goals as goal

pub returns : goal.returns
returns c =
    comparisons_are_tested c.narrow_operators_give_narrow_words.ensures.chars c.narrow_operators_give_narrow_words.ensures.shorts c.split_trees_mean.ensures.turns c.runs_stay_sound.ensures.expressions c.operands_are_held.ensures
