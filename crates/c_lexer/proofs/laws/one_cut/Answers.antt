use Rattle.c_lexer.proofs.OneCut.{cut_same}
use Rattle.c_lexer.proofs.laws.one_cut.Goals as goal

pub returns : goal.returns
returns c = cut_same
