use Rattle.std.proofs.Common.{◌≤◌, ◌-◌, length}
use Rattle.c_lexer.specs.Chains.{Chain}
use Rattle.c_lexer.specs.Quoted.{next_character}
use Rattle.c_lexer.proofs.quoted.characters.Given as goal

abbrev pub invariant-loop-len : goal.invariant-loop-len
invariant-loop-len l = record {
  chain : Chain (next_character l.quote l.bytes) l.count 0 l.offset;
  few : l.count ≤ l.offset;
  within : l.offset ≤ length l.bytes;
}

abbrev pub decreases-loop-len : goal.decreases-loop-len
decreases-loop-len l = length l.bytes - l.offset
