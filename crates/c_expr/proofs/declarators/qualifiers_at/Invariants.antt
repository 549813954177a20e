use Rattle.std.proofs.Common.{◌≡◌, ◌≤◌, ◌++◌, length}
use Rattle.c_lexer.specs.PlacedTokens.{placed}
use Rattle.c_readings.specs.Readers.{qualifiers_on}
use Rattle.c_expr.proofs.declarators.qualifiers_at.Given as goal

abbrev pub invariant-loop-found : goal.invariant-loop-found
invariant-loop-found l =
    (length l.rest ≤ length l.fn.tokens)
    × (qualifiers_on (placed l.fn.text l.fn.tokens) ≡ (l.qualifiers ++ (qualifiers_on (placed l.fn.text l.rest)).0, (qualifiers_on (placed l.fn.text l.rest)).1))

abbrev pub decreases-loop-found : goal.decreases-loop-found
decreases-loop-found l = length l.rest
