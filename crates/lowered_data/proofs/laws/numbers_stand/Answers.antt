use Rattle.lowered_data.proofs.lemmas.Numbering.{numbers_stand}
use Rattle.lowered_data.proofs.laws.numbers_stand.Goals as goal

pub returns : goal.returns
returns c = numbers_stand
