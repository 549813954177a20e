use Rattle.c_rows_agree.proofs.lemmas.Operators.{unary_holds, binary_holds, change_holds}
use Rattle.c_rows_agree.proofs.laws.operators_agree.Goals as goal

pub returns-clause-unary : goal.returns-clause-unary
returns-clause-unary c = unary_holds

pub returns-clause-binary : goal.returns-clause-binary
returns-clause-binary c = binary_holds

pub returns-clause-changes : goal.returns-clause-changes
returns-clause-changes c = change_holds
