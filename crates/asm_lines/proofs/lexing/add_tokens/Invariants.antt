use Rattle.std.proofs.Common.{length}
use Rattle.asm_lines.specs.Tokens.{views}
use Rattle.asm_lines.proofs.Blanks.{Leads}
use Rattle.asm_lines.proofs.lexing.add_tokens.Given as goal

abbrev pub invariant-loop-behind : goal.invariant-loop-behind
invariant-loop-behind l = Leads (views l.tokens.items) l.line l.rest

abbrev pub decreases-loop-behind : goal.decreases-loop-behind
decreases-loop-behind l = length l.rest
