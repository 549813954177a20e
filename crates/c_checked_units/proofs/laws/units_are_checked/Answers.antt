use Rattle.c_typing_steps.proofs.lemmas.Laws.{step_laws}
use Rattle.c_checked_units.proofs.lemmas.Units.{units_checked}
use Rattle.c_checked_units.proofs.laws.units_are_checked.Goals as goal

pub returns : goal.returns
returns c =
    units_checked
    (record { itself = c.compatible_types_are_mutual.ensures.itself; either = c.compatible_types_are_mutual.ensures.either; others = c.composites_are_compatible.ensures.others }) step_laws
    c.runs_stay_sound.ensures.units c.copies_have_locals.ensures.types
