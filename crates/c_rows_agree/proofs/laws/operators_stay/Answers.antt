use Rattle.c_rows_agree.proofs.lemmas.Staying.{operator_stays, read_stays}
use Rattle.c_rows_agree.proofs.laws.operators_stay.Goals as goal

pub returns-clause-operators : goal.returns-clause-operators
returns-clause-operators c = operator_stays

pub returns-clause-reads : goal.returns-clause-reads
returns-clause-reads c = read_stays
