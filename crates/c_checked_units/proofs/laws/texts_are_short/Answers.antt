use Rattle.c_checked_units.proofs.lemmas.Texts.{texts_short}
use Rattle.c_checked_units.proofs.laws.texts_are_short.Goals as goal

pub returns : goal.returns
returns c = texts_short
