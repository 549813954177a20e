use Rattle.lowered_units_agree.proofs.lemmas.Splitting.{blocks_split}
use Rattle.lowered_units_agree.proofs.laws.blocks_are_split.Goals as goal

pub returns : goal.returns
returns c = blocks_split c.blocks_are_split.ensures
