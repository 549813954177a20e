use Rattle.c_lexer.proofs.OneUnit.{one_lexemes}
use Rattle.c_lexer.proofs.laws.one_lexing.Goals as goal

pub returns : goal.returns
returns c = one_lexemes
