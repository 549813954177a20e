use Rattle.lowered_units_agree.proofs.lemmas.Numbering.{names_numbered}
use Rattle.lowered_units_agree.proofs.laws.names_are_numbered.Goals as goal

pub returns : goal.returns
returns c = names_numbered
