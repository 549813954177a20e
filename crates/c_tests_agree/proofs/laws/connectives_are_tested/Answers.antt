use Rattle.c_tests_agree.proofs.lemmas.Connecting.{negations_are_tested, conjunctions_are_tested, disjunctions_are_tested}
use Rattle.c_tests_agree.proofs.laws.connectives_are_tested.Goals as goal

pub returns-clause-negations : goal.returns-clause-negations
returns-clause-negations c = negations_are_tested

pub returns-clause-conjunctions : goal.returns-clause-conjunctions
returns-clause-conjunctions c = conjunctions_are_tested c.split_trees_mean.ensures.turns c.runs_stay_sound.ensures.expressions

pub returns-clause-disjunctions : goal.returns-clause-disjunctions
returns-clause-disjunctions c = disjunctions_are_tested c.split_trees_mean.ensures.turns c.runs_stay_sound.ensures.expressions
