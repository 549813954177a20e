use Rattle.std.proofs.Common.{◌≡◌, ◌++◌}
use Rattle.c_stmt_parts.proofs.body.push_all.Given as goal

abbrev pub invariant-loop-item : goal.invariant-loop-item
invariant-loop-item g l = l.items ≡ l.fn.items ++ l.yielded
