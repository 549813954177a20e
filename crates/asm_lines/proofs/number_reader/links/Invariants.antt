use Rattle.std.proofs.Common.{◌≤◌, ◌-◌, length, drop}
use Rattle.asm_lines.specs.Tokens.{views}
use Rattle.asm_lines.proofs.NumberReads.{Linked}
use Rattle.asm_lines.proofs.number_reader.links.Given as goal

abbrev pub invariant-loop-is_minus : goal.invariant-loop-is_minus
invariant-loop-is_minus l = record {
  within : l.at ≤ length l.tokens;
  linked : Linked (views l.tokens) l.from (views (drop l.at l.tokens)) l.total;
}

abbrev pub decreases-loop-is_minus : goal.decreases-loop-is_minus
decreases-loop-is_minus l = length l.tokens - l.at
