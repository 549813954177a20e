use Rattle.c_rows_agree.proofs.lemmas.Tests.{comparison_holds, test_holds}
use Rattle.c_rows_agree.proofs.laws.tests_agree.Goals as goal

pub returns-clause-comparisons : goal.returns-clause-comparisons
returns-clause-comparisons c = comparison_holds

pub returns-clause-tests : goal.returns-clause-tests
returns-clause-tests c = test_holds
