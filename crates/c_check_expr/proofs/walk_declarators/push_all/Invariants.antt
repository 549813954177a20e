use Rattle.std.proofs.Common.{◌≡◌, ◌++◌}
use Rattle.c_check_expr.proofs.walk_declarators.push_all.Given as goal

abbrev pub invariant-loop-step : goal.invariant-loop-step
invariant-loop-step l = l.steps ≡ l.initial.steps ++ l.yielded
