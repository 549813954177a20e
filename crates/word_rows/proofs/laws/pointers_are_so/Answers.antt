use Rattle.word_rows.proofs.lemmas.Pointers.{name_is, moves, label_is, local_is, parameter_is, moves_on, moves_back, difference_is}
use Rattle.word_rows.proofs.laws.pointers_are_so.Goals as goal

pub returns-clause-names : goal.returns-clause-names
returns-clause-names c = name_is

pub returns-clause-moved : goal.returns-clause-moved
returns-clause-moved c = moves

pub returns-clause-labels : goal.returns-clause-labels
returns-clause-labels c = label_is

pub returns-clause-locals : goal.returns-clause-locals
returns-clause-locals c = local_is

pub returns-clause-parameters : goal.returns-clause-parameters
returns-clause-parameters c = parameter_is

pub returns-clause-on : goal.returns-clause-on
returns-clause-on c = moves_on

pub returns-clause-back : goal.returns-clause-back
returns-clause-back c = moves_back

pub returns-clause-differences : goal.returns-clause-differences
returns-clause-differences c = difference_is
