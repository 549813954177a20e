use Rattle.c_straight_agree.proofs.lemmas.Laws.{operands_wait, steps_join}
use Rattle.c_straight_agree.proofs.laws.operands_wait.Goals as goal

pub returns-clause-waiting : goal.returns-clause-waiting
returns-clause-waiting c = operands_wait

pub returns-clause-joined : goal.returns-clause-joined
returns-clause-joined c = steps_join
