use Rattle.c_calls_agree.proofs.lemmas.CallRoots as roots
use Rattle.c_calls_agree.proofs.laws.call_roots_are_made.Goals as goal

pub returns : goal.returns
returns c = roots.call_roots_are_made c.narrow_operators_give_narrow_words.ensures.chars c.narrow_operators_give_narrow_words.ensures.shorts c.split_trees_mean.ensures.turns
