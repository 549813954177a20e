use Rattle.c_bodies_agree.proofs.lemmas.Units.{lowered_agree}
use Rattle.c_bodies_agree.proofs.laws.each_lowered_unit_agrees.Goals as goal

pub returns : goal.returns
returns c u order l checked within is = lowered_agree c.units_are_lowerings.ensures c.built_ins_are_provided.ensures c.texts_stand.ensures c.checked_units_agree.ensures u order l checked within is
