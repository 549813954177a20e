use Rattle.c_functions_agree.proofs.lemmas.Knot.{units_agree}
use Rattle.c_functions_agree.proofs.laws.units_agree.Goals as goal

pub returns : goal.returns
returns c u l checked fair lowered bodies =
    units_agree c.runs_stay_sound.ensures.statements c.runs_stay_sound.ensures.units c.locals_are_objects.ensures.starts c.turns_are_repetitions.ensures.calls c.labels_stand_once.ensures.once c.labels_stand_once.ensures.there c.jumps_stay.ensures c.bodies_agree.ensures c.calls_have_frames.ensures c.calls_enter.ensures c.calls_return.ensures u l checked fair lowered bodies
