use Rattle.std.proofs.Common.{◌≡◌, ◌≤◌, ◌++◌, ◌∷◌, length}
use Rattle.c_lexer.specs.PlacedTokens.{placed}
use Rattle.c_lexer.specs.Texts.{text_of}
use Rattle.c_readings.specs.Readers.{texts_on}
use Rattle.c_expr.proofs.heads.literals_at.Given as goal

abbrev pub invariant-loop-other : goal.invariant-loop-other
invariant-loop-other l =
    (length l.rest ≤ length l.fn.tokens)
    × (l.literals ++ (texts_on (placed l.fn.text l.rest)).0 ≡ text_of l.fn.text l.fn.token ∷ (texts_on (placed l.fn.text l.fn.tokens)).0)
    × ((texts_on (placed l.fn.text l.rest)).1 ≡ (texts_on (placed l.fn.text l.fn.tokens)).1)

abbrev pub decreases-loop-other : goal.decreases-loop-other
decreases-loop-other l = length l.rest
