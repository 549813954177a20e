use Rattle.c_meaning.proofs.lemmas.TypingRows.{expr_rows, name_rows, declared_rows}
use Rattle.c_meaning.proofs.lemmas.TypingFaults.{expr_first, name_first, declared_first}
use Rattle.c_meaning.proofs.laws.typing_is_a_function.Goals as goal

pub returns-clause-expressions : goal.returns-clause-expressions
returns-clause-expressions c = expr_rows

pub returns-clause-names : goal.returns-clause-names
returns-clause-names c = name_rows

pub returns-clause-declared : goal.returns-clause-declared
returns-clause-declared c = declared_rows

pub returns-clause-expression_faults : goal.returns-clause-expression_faults
returns-clause-expression_faults c = expr_first

pub returns-clause-name_faults : goal.returns-clause-name_faults
returns-clause-name_faults c = name_first

pub returns-clause-declared_faults : goal.returns-clause-declared_faults
returns-clause-declared_faults c = declared_first
