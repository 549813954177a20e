use Rattle.c_straight_agree.proofs.lemmas.Finals.{finals_go_back, test_finals_go_back}
use Rattle.c_straight_agree.proofs.laws.blocks_come_to_be.Goals as goal

pub returns-clause-expressions : goal.returns-clause-expressions
returns-clause-expressions c = finals_go_back

pub returns-clause-tests : goal.returns-clause-tests
returns-clause-tests c = test_finals_go_back
