use Rattle.std.proofs.Common.{◌≡◌, ◌<◌, ℕ, false, drop}
use Rattle.c_lexer.specs.Comments.{closes}
use Rattle.c_lexer.proofs.comment.before_close.Given as goal

abbrev pub invariant-loop-n : goal.invariant-loop-n
invariant-loop-n l = (k : ℕ) → k < l.n → closes (drop k l.bytes) ≡ false
