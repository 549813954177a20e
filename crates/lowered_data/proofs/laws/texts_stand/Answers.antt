use Rattle.lowered_data.proofs.lemmas.Texts.{texts_stand}
use Rattle.lowered_data.proofs.laws.texts_stand.Goals as goal

pub returns : goal.returns
returns c = texts_stand
