use Rattle.std.proofs.Common.{◌≡◌, ◌≤◌, ◌-◌, length}
use Rattle.c_lexer.specs.Tokens.{first_place}
use Rattle.c_lexer.proofs.Lists.{LeadsTo}
use Rattle.c_lexer.proofs.scanning.scan.Given as goal

abbrev pub invariant-loop-count : goal.invariant-loop-count
invariant-loop-count l = record {
  source : l.lexer.source ≡ l.source;
  few : l.count ≤ l.lexer.place.offset;
  within : l.lexer.place.offset ≤ length l.source;
  tokens : LeadsTo l.source first_place l.count l.lexer.place;
}

abbrev pub decreases-loop-count : goal.decreases-loop-count
decreases-loop-count l = length l.source - l.lexer.place.offset
