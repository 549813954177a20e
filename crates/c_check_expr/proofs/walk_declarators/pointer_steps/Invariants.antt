use Rattle.std.proofs.Common.{◌≡◌, ◌++◌, ℕ, drop}
use Rattle.c_types.specs.Table.{Table}
use Rattle.c_meaning.specs.TypeRows.{pointer_steps}
use Rattle.c_check_expr.specs.PartsSeen.{AreStepsIn, steps_seen}
use Rattle.c_check_expr.proofs.walk_declarators.pointer_steps.Given as goal

abbrev pub invariant-loop-qualifiers : goal.invariant-loop-qualifiers
invariant-loop-qualifiers l =
    ((t : Table) → steps_seen t l.steps ++ pointer_steps (drop l.qualifiers-index l.pointers) ≡ pointer_steps l.pointers)
    × ((n : ℕ) → AreStepsIn n l.steps)
