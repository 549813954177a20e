use Rattle.lowered_labels.proofs.lemmas.ExpressionMarks.{test_marks, value_marks}
use Rattle.lowered_labels.proofs.lemmas.FunctionMarks.{functions_mark}
use Rattle.lowered_labels.proofs.lemmas.StatementMarks.{statement_marks}
use Rattle.lowered_labels.proofs.laws.labels_are_marked.Goals as goal

pub returns-clause-expressions : goal.returns-clause-expressions
returns-clause-expressions c = value_marks

pub returns-clause-tests : goal.returns-clause-tests
returns-clause-tests c = test_marks

pub returns-clause-statements : goal.returns-clause-statements
returns-clause-statements c = statement_marks

pub returns-clause-functions : goal.returns-clause-functions
returns-clause-functions c = functions_mark
