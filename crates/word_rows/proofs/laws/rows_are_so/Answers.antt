use Rattle.word_rows.proofs.lemmas.Rows.{two_rows, one_rows, constant_rows, test_rows, jumps, calls}
use Rattle.word_rows.proofs.laws.rows_are_so.Goals as goal

pub returns-clause-two : goal.returns-clause-two
returns-clause-two c = two_rows

pub returns-clause-one : goal.returns-clause-one
returns-clause-one c = one_rows

pub returns-clause-constants : goal.returns-clause-constants
returns-clause-constants c = constant_rows

pub returns-clause-tests : goal.returns-clause-tests
returns-clause-tests c = test_rows

pub returns-clause-jumps : goal.returns-clause-jumps
returns-clause-jumps c = jumps

pub returns-clause-calls : goal.returns-clause-calls
returns-clause-calls c = calls
