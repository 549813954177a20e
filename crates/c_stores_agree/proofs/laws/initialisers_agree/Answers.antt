use Rattle.c_stores_agree.proofs.lemmas.Filled.{initialiser_agrees}
use Rattle.c_stores_agree.proofs.lemmas.Filling.{plain_initialiser_agrees}
use Rattle.c_stores_agree.proofs.laws.initialisers_agree.Goals as goal

pub returns-clause-plain : goal.returns-clause-plain
returns-clause-plain c p frame once f e n of local locals xs places plain agree clears y l le final =
    plain_initialiser_agrees c.narrow_operators_give_narrow_words.ensures.chars c.narrow_operators_give_narrow_words.ensures.shorts c.split_trees_mean.ensures.turns c.runs_stay_sound.ensures.expressions c.runs_stay_sound.ensures.statements
    (record { taken = c.slots_are_taken.ensures; stored = c.slots_are_stored.ensures; stay = c.slots_stay.ensures; reads = c.slots_are_read.ensures.reads }) p frame once f e n of local locals xs places plain agree clears y l le final

pub returns-clause-all : goal.returns-clause-all
returns-clause-all c p frame texts once f e n of local locals xs places agree clears y l le final =
    initialiser_agrees c.narrow_operators_give_narrow_words.ensures.chars c.narrow_operators_give_narrow_words.ensures.shorts c.split_trees_mean.ensures.turns c.runs_stay_sound.ensures.expressions c.runs_stay_sound.ensures.statements
    (record { taken = c.slots_are_taken.ensures; stored = c.slots_are_stored.ensures; stay = c.slots_stay.ensures; reads = c.slots_are_read.ensures.reads }) p frame texts once f e n of local locals xs places agree clears y l le final
