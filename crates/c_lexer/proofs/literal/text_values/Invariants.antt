use Rattle.std.proofs.Common.{◌≤◌, ℕ, length}
use Rattle.c_lexer.specs.Texts.{text_of}
use Rattle.c_lexer.proofs.Literals.{Goes}
use Rattle.c_lexer.proofs.literal.text_values.Given as goal

abbrev pub invariant-loop-value : goal.invariant-loop-value
invariant-loop-value l = (length l.rest ≤ 16777216) × (n : ℕ) × Goes n l.rest l.values (text_of l.fn.source l.fn.token)

abbrev pub decreases-loop-value : goal.decreases-loop-value
decreases-loop-value l = length l.rest
