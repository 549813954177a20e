use Rattle.c_stmt_agreement.proofs.lemmas.ForLoops.{for_is_lowered, last_is_lowered}
use Rattle.c_stmt_agreement.proofs.lemmas.Loops.{while_is_lowered, do_is_lowered}
use Rattle.c_stmt_agreement.proofs.laws.loops_are_lowered.Goals as goal

pub returns-clause-whiles : goal.returns-clause-whiles
returns-clause-whiles c = while_is_lowered

pub returns-clause-dos : goal.returns-clause-dos
returns-clause-dos c = do_is_lowered

pub returns-clause-fors : goal.returns-clause-fors
returns-clause-fors c = for_is_lowered

pub returns-clause-lasts : goal.returns-clause-lasts
returns-clause-lasts c = last_is_lowered
