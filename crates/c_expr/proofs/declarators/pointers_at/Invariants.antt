use Rattle.std.proofs.Common.{◌≤◌, length}
use Rattle.c_lexer.specs.PlacedTokens.{placed}
use Rattle.c_readings.specs.Readers.{pointers_on}
use Rattle.c_expr.proofs.Fronts.{PointersLeft}
use Rattle.c_expr.proofs.declarators.pointers_at.Given as goal

abbrev pub invariant-loop-behind : goal.invariant-loop-behind
invariant-loop-behind l = (length l.rest ≤ length l.fn.tokens) × PointersLeft (pointers_on (placed l.fn.text l.fn.tokens)) l.pointers (placed l.fn.text l.rest)

abbrev pub decreases-loop-behind : goal.decreases-loop-behind
decreases-loop-behind l = length l.rest
