use Rattle.c_searches_agree.proofs.lemmas.Jumping.{jumps_lead}
use Rattle.c_searches_agree.proofs.lemmas.Reading.{labels_are_read}
use Rattle.c_searches_agree.proofs.laws.jumps_through_tables_lead.Goals as goal

pub returns-clause-read : goal.returns-clause-read
returns-clause-read c p frame f x t whole i n slot word not_below not_above b less has o k at holds =
    labels_are_read c.slots_are_read.ensures.reads p frame f x t whole i n slot word not_below not_above b less has o k at holds

pub returns-clause-lead : goal.returns-clause-lead
returns-clause-lead c p frame once f x t whole =
    jumps_lead c.narrow_operators_give_narrow_words.ensures.chars c.narrow_operators_give_narrow_words.ensures.shorts c.split_trees_mean.ensures.turns c.slots_are_read.ensures.reads p frame once f x t whole
