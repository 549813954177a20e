use Rattle.lowered_units_agree.proofs.lemmas.Lowerings.{units_lowered}
use Rattle.lowered_units_agree.proofs.laws.units_are_lowerings.Goals as goal

pub returns : goal.returns
returns c = units_lowered c.blocks_are_split.ensures
