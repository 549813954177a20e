use Rattle.std.proofs.Common.{◌≡◌, ◌++◌}
use Rattle.c_check_decl.proofs.declares.appended.Given as goal

abbrev pub invariant-loop-item : goal.invariant-loop-item
invariant-loop-item g l = l.all ≡ l.fn.items ++ l.yielded
