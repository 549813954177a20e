use Rattle.std.proofs.Common.{◌≡◌, length}
use Rattle.lburg_lines.specs.Tokens.{escapes_well}
use Rattle.lburg_lines.proofs.lexing.escapes_well.Given as goal

abbrev pub invariant-loop-first : goal.invariant-loop-first
invariant-loop-first l = escapes_well l.bytes ≡ escapes_well l.rest

abbrev pub decreases-loop-first : goal.decreases-loop-first
decreases-loop-first l = length l.rest
