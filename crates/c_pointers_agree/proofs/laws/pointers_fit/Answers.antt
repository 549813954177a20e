use Rattle.c_pointers_agree.proofs.lemmas.Fitting.{elements_fit, member_fits, name_fits, argument_fits, differences_fit, slots_lie}
use Rattle.c_pointers_agree.proofs.laws.pointers_fit.Goals as goal

pub returns-clause-elements : goal.returns-clause-elements
returns-clause-elements c = elements_fit

pub returns-clause-members : goal.returns-clause-members
returns-clause-members c = member_fits

pub returns-clause-names : goal.returns-clause-names
returns-clause-names c = name_fits

pub returns-clause-differences : goal.returns-clause-differences
returns-clause-differences c = differences_fit

pub returns-clause-slots : goal.returns-clause-slots
returns-clause-slots c = slots_lie

pub returns-clause-arguments : goal.returns-clause-arguments
returns-clause-arguments c = argument_fits
