use Rattle.std.proofs.Common.{◌≡◌, ◌++◌, drop}
use Rattle.c_meaning.specs.Rows.{joined}
use Rattle.c_check_expr.proofs.names.joined.Given as goal

abbrev pub invariant-loop-text : goal.invariant-loop-text
invariant-loop-text l = l.bytes ++ joined (drop l.text-index l.text-items) ≡ joined l.texts
