use Rattle.std.proofs.Common.{◌≡◌, ◌++◌, vec_len}
use Rattle.std.specs.Prelude.{reverse}
use Rattle.c_check_expr.proofs.walk_declarators.push_reversed.Given as goal

abbrev pub decreases-loop-step : goal.decreases-loop-step
decreases-loop-step l = vec_len l.left

abbrev pub invariant-loop-step : goal.invariant-loop-step
invariant-loop-step l = l.steps ++ reverse l.left.items ≡ l.initial.steps ++ reverse l.initial.left.items
