use Rattle.c_lexer.proofs.Lengths.{longest_run, longest_of_signs}
use Rattle.c_lexer.proofs.laws.longest.Goals as goal

pub returns-clause-runs : goal.returns-clause-runs
returns-clause-runs c = longest_run

pub returns-clause-signs : goal.returns-clause-signs
returns-clause-signs c = longest_of_signs
