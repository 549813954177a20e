use Rattle.std.proofs.Common.{length}
use Rattle.lburg_lines.specs.Tokens.{views}
use Rattle.lburg_lines.proofs.Blanks.{Adds}
use Rattle.lburg_lines.proofs.lexing.add_tokens.Given as goal

abbrev pub invariant-loop-behind : goal.invariant-loop-behind
invariant-loop-behind l = Adds (views l.fn.found.items) (views l.found.items) l.bytes l.rest

abbrev pub decreases-loop-behind : goal.decreases-loop-behind
decreases-loop-behind l = length l.rest
