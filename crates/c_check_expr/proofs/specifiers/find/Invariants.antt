use Rattle.std.proofs.Common.{◌≡◌, drop}
use Rattle.c_check_expr.specs.Counted.{meant_in}
use Rattle.c_check_expr.proofs.specifiers.find.Given as goal

abbrev pub invariant-loop-words : goal.invariant-loop-words
invariant-loop-words l = meant_in (drop l.words-index l.table) l.counts ≡ meant_in l.table l.counts
