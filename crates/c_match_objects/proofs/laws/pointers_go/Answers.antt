use Rattle.c_match_objects.proofs.lemmas.Compared.{pointers_ordered, pointers_subtracted, pointers_compared, pointer_tested}
use Rattle.c_match_objects.proofs.lemmas.Pointers.{name_moves, moves_on, moves_back}
use Rattle.c_match_objects.proofs.laws.pointers_go.Goals as goal

pub returns-clause-moved : goal.returns-clause-moved
returns-clause-moved c = name_moves

pub returns-clause-on : goal.returns-clause-on
returns-clause-on c = moves_on

pub returns-clause-back : goal.returns-clause-back
returns-clause-back c = moves_back

pub returns-clause-ordered : goal.returns-clause-ordered
returns-clause-ordered c = pointers_ordered

pub returns-clause-subtracted : goal.returns-clause-subtracted
returns-clause-subtracted c = pointers_subtracted

pub returns-clause-compared : goal.returns-clause-compared
returns-clause-compared c = pointers_compared

pub returns-clause-tested : goal.returns-clause-tested
returns-clause-tested c = pointer_tested
