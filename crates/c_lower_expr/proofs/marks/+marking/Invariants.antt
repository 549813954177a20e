use Rattle.std.proofs.Common.{ℕ, drop}
use Rattle.c_types.specs.CType.{CType}
use Rattle.c_lower_expr.proofs.lemmas.Marking.{MarksLeft, StraightLeft}
use Rattle.c_lower_expr.proofs.marks.+marking.Given as goal

abbrev pub invariant-mark_all-loop-e : goal.invariant-mark_all-loop-e
invariant-mark_all-loop-e l = (known : ℕ → CType) → MarksLeft known l.list (drop l.e-index l.list) l.fn.all.items l.all.items × StraightLeft known l.list (drop l.e-index l.list) l.are
