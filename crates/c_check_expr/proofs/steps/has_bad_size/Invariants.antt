use Rattle.std.proofs.Common.{◌≡◌, drop, length}
use Rattle.c_types.specs.CType.{CType}
use Rattle.c_meaning.specs.TypeConstraints.{is_bad_size, some_step}
use Rattle.c_check_expr.specs.PartsSeen.{AreStepsIn, steps_seen}
use Rattle.c_check_expr.proofs.steps.has_bad_size.Given as goal

abbrev pub invariant-loop-step : goal.invariant-loop-step
invariant-loop-step l = record {
  rest : AreStepsIn (length l.types.forms) (drop l.step-index l.steps);
  same : (t : CType) → (u : CType) × (some_step is_bad_size t (steps_seen l.types l.steps) ≡ some_step is_bad_size u (steps_seen l.types (drop l.step-index l.steps)));
}
