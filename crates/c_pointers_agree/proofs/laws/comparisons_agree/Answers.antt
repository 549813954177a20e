use Rattle.c_pointers_agree.proofs.lemmas.Comparisons.{comparisons_agree, tests_agree}
use Rattle.c_pointers_agree.proofs.lemmas.Differences.{differences_agree}
use Rattle.c_pointers_agree.proofs.laws.comparisons_agree.Goals as goal

pub returns-clause-differences : goal.returns-clause-differences
returns-clause-differences c = differences_agree

pub returns-clause-compared : goal.returns-clause-compared
returns-clause-compared c = comparisons_agree

pub returns-clause-tested : goal.returns-clause-tested
returns-clause-tested c = tests_agree
