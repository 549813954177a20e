use Rattle.std.proofs.Common.{◌≡◌, ◌≤◌, ◌-◌, ◌++◌, length, drop, map}
use Rattle.lburg_lines.specs.Tokens.{views}
use Rattle.lburg_lines.specs.Grammar.{numbered_of, terminal_tokens}
use Rattle.lburg_lines.proofs.declaration_reader.terminals_at.Given as goal

abbrev pub invariant-loop-at : goal.invariant-loop-at
invariant-loop-at l = (l.at ≤ length l.tokens) × (views l.tokens ≡ terminal_tokens (map numbered_of l.found.items) ++ views (drop l.at l.tokens))

abbrev pub decreases-loop-at : goal.decreases-loop-at
decreases-loop-at l = length l.tokens - l.at
