use Rattle.std.proofs.Common.{◌≡◌, ℕ, length, drop, take}
use Rattle.lowered_forms.specs.Calls.{all_held}
use Rattle.lowered_forms.specs.Lows.{Low}
use Rattle.lowering_steps.specs.States.{Shows}
use Rattle.c_lower_expr.specs.Passing.{all_typed}
use Rattle.c_lower_expr.proofs.lemmas.Holding.{HeldLeft}
use Rattle.c_lower_expr.proofs.calls.hold_all.Given as goal

abbrev pub invariant-loop-i : goal.invariant-loop-i
invariant-loop-i l =
    ((n : ℕ) (m : Low) → Shows l.fn.into m → HeldLeft l.is_straight n l.into (all_held l.is_straight n (all_typed l.fn.values.items) m) (take l.i l.values.items) (drop l.i l.values.items))
    × (length l.values.items ≡ length l.fn.values.items)
