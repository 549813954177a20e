use Rattle.c_lexer.proofs.Values.{have_values, one_values}
use Rattle.c_lexer.proofs.laws.one_text.Goals as goal

pub returns-clause-some : goal.returns-clause-some
returns-clause-some c = have_values

pub returns-clause-one : goal.returns-clause-one
returns-clause-one c = one_values
