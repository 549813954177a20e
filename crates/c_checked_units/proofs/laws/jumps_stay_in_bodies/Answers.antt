use Rattle.c_checked_units.proofs.lemmas.Units.{units_own}
use Rattle.c_checked_units.proofs.laws.jumps_stay_in_bodies.Goals as goal

pub returns : goal.returns
returns c = units_own
