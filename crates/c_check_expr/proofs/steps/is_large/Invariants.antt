use Rattle.std.proofs.Common.{◌≡◌, drop, length}
use Rattle.c_types.specs.CType.{CType}
use Rattle.c_types.specs.Table.{tags, type_at}
use Rattle.c_meaning.specs.TypeConstraints.{some_step}
use Rattle.c_check_expr.specs.Outlines.{IsOutline}
use Rattle.c_check_expr.specs.PartsSeen.{AreStepsIn, steps_seen}
use Rattle.c_check_expr.specs.StepFaults.{is_large_step}
use Rattle.c_check_expr.proofs.steps.is_large.Given as goal

abbrev pub invariant-loop-step : goal.invariant-loop-step
invariant-loop-step l = record {
  rest : AreStepsIn (length l.types.forms) (drop l.step-index l.steps);
  same : (u : CType) × IsOutline (tags l.types) u l.before × (some_step (is_large_step (tags l.types)) (type_at l.types l.base) (steps_seen l.types l.steps) ≡ some_step (is_large_step (tags l.types)) u (steps_seen l.types (drop l.step-index l.steps)));
}
