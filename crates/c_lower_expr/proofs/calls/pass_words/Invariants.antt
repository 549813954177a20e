use Rattle.std.proofs.Common.{drop}
use Rattle.c_lower_expr.proofs.lemmas.Holding.{WordsLeft}
use Rattle.c_lower_expr.proofs.calls.pass_words.Given as goal

abbrev pub invariant-loop-v : goal.invariant-loop-v
invariant-loop-v l = WordsLeft l.fn.block l.words (drop l.v-index l.words) l.block
