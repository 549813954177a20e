use Rattle.std.proofs.Common.{◌≡◌, ◌≤◌, ◌-◌, length}
use Rattle.c_expr.proofs.Cutting.{Leads}
use Rattle.c_expr.proofs.parser.tokens_of.Given as goal

abbrev pub invariant-loop-token : goal.invariant-loop-token
invariant-loop-token l = record {
  source : l.lexer.source ≡ l.source;
  within : l.lexer.place.offset ≤ length l.source;
  tokens : Leads l.source l.tokens.items l.lexer.place;
}

abbrev pub decreases-loop-token : goal.decreases-loop-token
decreases-loop-token l = length l.source - l.lexer.place.offset
