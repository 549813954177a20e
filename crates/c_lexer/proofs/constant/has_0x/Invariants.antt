use Rattle.std.proofs.Common.{◌≡◌, length}
use Rattle.c_lexer.specs.Constants.{has_0x}
use Rattle.c_lexer.proofs.constant.has_0x.Given as goal

abbrev pub invariant-loop-first : goal.invariant-loop-first
invariant-loop-first l = has_0x l.bytes ≡ has_0x l.rest

abbrev pub decreases-loop-first : goal.decreases-loop-first
decreases-loop-first l = length l.rest
