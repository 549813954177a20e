use Rattle.c_lexer.proofs.OneCut.{one_list}
use Rattle.c_lexer.proofs.laws.one_list.Goals as goal

pub returns : goal.returns
returns c = one_list
