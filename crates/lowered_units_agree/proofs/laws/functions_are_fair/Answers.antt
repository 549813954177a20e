use Rattle.lowered_units_agree.proofs.lemmas.Fair.{functions_fair}
use Rattle.lowered_units_agree.proofs.laws.functions_are_fair.Goals as goal

pub returns : goal.returns
returns c = functions_fair
