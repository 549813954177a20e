use Rattle.c_agreement.proofs.lemmas.Sentences.{behind_is_shown, agreeing_is_told}
use Rattle.c_agreement.proofs.laws.agreeing_is_told.Goals as goal

pub returns-clause-shown : goal.returns-clause-shown
returns-clause-shown c = behind_is_shown

pub returns-clause-told : goal.returns-clause-told
returns-clause-told c = agreeing_is_told
