use Rattle.lowered_forms.proofs.lemmas.Adding.{lowering_adds, testing_adds}
use Rattle.lowered_forms.proofs.lemmas.Going.{straight_goes_on}
use Rattle.lowered_forms.proofs.lemmas.GoingBack.{fronts_go_back}
use Rattle.lowered_forms.proofs.lemmas.Operands.{value_is}
use Rattle.lowered_forms.proofs.laws.lowering_goes_on.Goals as goal

pub returns-clause-expressions : goal.returns-clause-expressions
returns-clause-expressions c = lowering_adds

pub returns-clause-tests : goal.returns-clause-tests
returns-clause-tests c = testing_adds

pub returns-clause-straight : goal.returns-clause-straight
returns-clause-straight c = straight_goes_on

pub returns-clause-operands : goal.returns-clause-operands
returns-clause-operands c = value_is

pub returns-clause-fronts : goal.returns-clause-fronts
returns-clause-fronts c = fronts_go_back
