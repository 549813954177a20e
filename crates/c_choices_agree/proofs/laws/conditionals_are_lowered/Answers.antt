use Rattle.c_choices_agree.proofs.lemmas.Conditionals.{conditionals_are_lowered, void_conditionals_are_performed}
use Rattle.c_choices_agree.proofs.laws.conditionals_are_lowered.Goals as goal

pub returns-clause-valued : goal.returns-clause-valued
returns-clause-valued c =
    conditionals_are_lowered c.narrow_operators_give_narrow_words.ensures.chars c.narrow_operators_give_narrow_words.ensures.shorts c.split_trees_mean.ensures.turns c.runs_stay_sound.ensures.expressions
    (record { taken = c.slots_are_taken.ensures; stored = c.slots_are_stored.ensures; stay = c.slots_stay.ensures; reads = c.slots_are_read.ensures.reads }) c.branches_are_taken.ensures.jumps

pub returns-clause-void : goal.returns-clause-void
returns-clause-void c =
    void_conditionals_are_performed c.narrow_operators_give_narrow_words.ensures.chars c.narrow_operators_give_narrow_words.ensures.shorts c.split_trees_mean.ensures.turns c.runs_stay_sound.ensures.expressions
    (record { taken = c.slots_are_taken.ensures; stored = c.slots_are_stored.ensures; stay = c.slots_stay.ensures; reads = c.slots_are_read.ensures.reads }) c.branches_are_taken.ensures.jumps
