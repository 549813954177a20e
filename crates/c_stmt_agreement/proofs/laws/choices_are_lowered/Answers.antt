use Rattle.c_stmt_agreement.proofs.lemmas.Choices.{choice_is_lowered}
use Rattle.c_stmt_agreement.proofs.lemmas.Switches.{switch_is_lowered}
use Rattle.c_stmt_agreement.proofs.laws.choices_are_lowered.Goals as goal

pub returns-clause-choices : goal.returns-clause-choices
returns-clause-choices c = choice_is_lowered

pub returns-clause-switches : goal.returns-clause-switches
returns-clause-switches c p y e x cases default t a first behind b among with_default search h comes = switch_is_lowered p y e b t first behind h comes cases default among with_default x a search
