use Rattle.c_searches_agree.proofs.lemmas.Values.{searches_agree}
use Rattle.c_searches_agree.proofs.laws.searches_agree.Goals as goal

pub returns-clause-searches : goal.returns-clause-searches
returns-clause-searches c p frame once f x cases default value words apart own own_default y labelled b le tables final t =
    searches_agree c.narrow_operators_give_narrow_words.ensures.chars c.narrow_operators_give_narrow_words.ensures.shorts c.split_trees_mean.ensures.turns c.runs_stay_sound.ensures.expressions
    (record { taken = c.slots_are_taken.ensures; stored = c.slots_are_stored.ensures; stay = c.slots_stay.ensures; reads = c.slots_are_read.ensures.reads }) p frame once f x cases default value words apart own own_default y labelled b le tables final t

pub returns-clause-checked : goal.returns-clause-checked
returns-clause-checked c p frame once f u g x cases default checked promoted apart words agrees own own_default y labelled b le tables final t =
    searches_agree c.narrow_operators_give_narrow_words.ensures.chars c.narrow_operators_give_narrow_words.ensures.shorts c.split_trees_mean.ensures.turns c.runs_stay_sound.ensures.expressions
    (record { taken = c.slots_are_taken.ensures; stored = c.slots_are_stored.ensures; stay = c.slots_stay.ensures; reads = c.slots_are_read.ensures.reads }) p frame once f x cases default agrees.value words apart own own_default y labelled b le tables final t
