use Rattle.c_calls_agree.proofs.lemmas.Words.{words_are_passed}
use Rattle.c_calls_agree.proofs.laws.argument_words_are_passed.Goals as goal

pub returns : goal.returns
returns c = words_are_passed c.narrow_operators_give_narrow_words.ensures.chars c.narrow_operators_give_narrow_words.ensures.shorts
