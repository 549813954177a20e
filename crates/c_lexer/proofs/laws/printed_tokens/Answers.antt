use Rattle.c_lexer.proofs.laws.printed_tokens.Goals as goal
use Rattle.c_lexer.proofs.PrintedTokens.{printed_again}

pub returns : goal.returns
returns c = printed_again
