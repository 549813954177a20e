use Rattle.lowered_units_agree.proofs.lemmas.Providing.{built_ins_provided}
use Rattle.lowered_units_agree.proofs.laws.built_ins_are_provided.Goals as goal

pub returns : goal.returns
returns c = built_ins_provided
