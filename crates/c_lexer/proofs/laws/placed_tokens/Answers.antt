use Rattle.c_lexer.proofs.PlacedTokens.{placed_tokens}
use Rattle.c_lexer.proofs.laws.placed_tokens.Goals as goal

pub returns : goal.returns
returns c = placed_tokens
