use Rattle.std.proofs.Common.{◌≡◌, ◌<◌, false, drop, length}
use Rattle.c_types.specs.Table.{Grows, tags, type_at}
use Rattle.c_meaning.specs.TypeConstraints.{is_bad_element, some_step}
use Rattle.c_meaning.specs.TypeRows.{formed}
use Rattle.c_check_expr.specs.PartsSeen.{AreStepsIn, steps_seen}
use Rattle.c_check_expr.specs.StepFaults.{is_deep_step, is_large_step}
use Rattle.c_check_expr.proofs.step_types.formed.Given as goal

abbrev pub invariant-loop-step : goal.invariant-loop-step
invariant-loop-step l = record {
  within : l.of < length l.types.forms;
  grows : Grows l.fn.types l.types;
  rest : AreStepsIn (length l.fn.types.forms) (drop l.step-index l.steps);
  elements : some_step (is_bad_element (tags l.fn.types)) (type_at l.types l.of) (steps_seen l.fn.types (drop l.step-index l.steps)) ≡ false;
  sizes : some_step (is_large_step (tags l.fn.types)) (type_at l.types l.of) (steps_seen l.fn.types (drop l.step-index l.steps)) ≡ false;
  deep : some_step (is_deep_step (tags l.fn.types)) (type_at l.fn.types l.base) (steps_seen l.fn.types l.steps) ≡ some_step (is_deep_step (tags l.fn.types)) (type_at l.types l.of) (steps_seen l.fn.types (drop l.step-index l.steps));
  means : formed (type_at l.fn.types l.base) (steps_seen l.fn.types l.steps) ≡ formed (type_at l.types l.of) (steps_seen l.fn.types (drop l.step-index l.steps));
}
