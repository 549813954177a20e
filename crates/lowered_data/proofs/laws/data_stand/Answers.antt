use Rattle.lowered_data.proofs.lemmas.Standing.{data_stand}
use Rattle.lowered_data.proofs.laws.data_stand.Goals as goal

pub returns : goal.returns
returns c = data_stand
