use Rattle.c_bodies_agree.proofs.lemmas.Units.{checked_agree}
use Rattle.c_bodies_agree.proofs.laws.checked_units_agree.Goals as goal

pub returns : goal.returns
returns c u l checked lowered provides texts = checked_agree c.functions_are_fair.ensures c.parts_of_bodies_agree.ensures c.units_agree.ensures u l checked lowered provides texts
