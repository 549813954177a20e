use Rattle.c_choices_agree.proofs.lemmas.Truths.{truths_are_lowered}
use Rattle.c_choices_agree.proofs.laws.truths_are_lowered.Goals as goal

pub returns : goal.returns
returns c = truths_are_lowered c.narrow_operators_give_narrow_words.ensures.chars c.narrow_operators_give_narrow_words.ensures.shorts c.split_trees_mean.ensures.turns (record { taken = c.slots_are_taken.ensures; stored = c.slots_are_stored.ensures; stay = c.slots_stay.ensures; reads = c.slots_are_read.ensures.reads })
