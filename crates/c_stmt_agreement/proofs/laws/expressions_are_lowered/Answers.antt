use Rattle.c_stmt_agreement.proofs.lemmas.Expressions.{expression_is_lowered, tests_are_tests}
use Rattle.c_stmt_agreement.proofs.laws.expressions_are_lowered.Goals as goal

pub returns-clause-expressions : goal.returns-clause-expressions
returns-clause-expressions c p frame y e x tame a le r lowered final = expression_is_lowered c.runs_stay_sound.ensures.expressions p frame x tame y e a le r lowered final

pub returns-clause-tests : goal.returns-clause-tests
returns-clause-tests c p frame x tame n when a b le tested final t = tests_are_tests c.runs_stay_sound.ensures.expressions p frame x tame n when a b le tested final t
