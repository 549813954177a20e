use Rattle.std.proofs.Common.{◌≡◌, drop}
use Rattle.c_types.specs.CType.{CType}
use Rattle.c_types.specs.Table.{Table}
use Rattle.c_meaning.specs.TypeConstraints.{some_step}
use Rattle.c_check_expr.specs.PartsSeen.{steps_seen}
use Rattle.c_check_expr.specs.StepFaults.{is_many_step}
use Rattle.c_check_expr.proofs.steps.has_many_parameters.Given as goal

abbrev pub invariant-loop-step : goal.invariant-loop-step
invariant-loop-step l = (k : Table) (t : CType) → (u : CType) × (some_step is_many_step t (steps_seen k l.steps) ≡ some_step is_many_step u (steps_seen k (drop l.step-index l.steps)))
