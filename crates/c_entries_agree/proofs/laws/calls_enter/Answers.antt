use Rattle.c_entries_agree.proofs.lemmas.Entering.{enters}
use Rattle.c_entries_agree.proofs.laws.calls_enter.Goals as goal

pub returns : goal.returns
returns c u l f a map w is x k callees i old starts =
    enters c.narrow_operators_give_narrow_words.ensures.chars c.narrow_operators_give_narrow_words.ensures.shorts c.frames_are_kept.ensures.functions c.statements_add.ensures.functions c.runs_stay_sound.ensures.units c.locals_are_objects.ensures.checked c.locals_are_objects.ensures.fitting u l f a map w is x k callees i old starts
