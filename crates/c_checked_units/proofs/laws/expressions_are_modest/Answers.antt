use Rattle.c_checked_units.proofs.lemmas.Modest.{checked_modest}
use Rattle.c_checked_units.proofs.laws.expressions_are_modest.Goals as goal

pub returns : goal.returns
returns c = checked_modest
