use Rattle.std.proofs.Common.{◌≡◌, drop}
use Rattle.c_types.specs.CType.{CType}
use Rattle.c_types.specs.Table.{Table}
use Rattle.c_meaning.specs.TypeConstraints.{is_name_list, some_step}
use Rattle.c_check_expr.specs.PartsSeen.{steps_seen}
use Rattle.c_check_expr.proofs.steps.has_name_list.Given as goal

abbrev pub invariant-loop-step : goal.invariant-loop-step
invariant-loop-step l = (k : Table) (t : CType) → (u : CType) × (some_step is_name_list t (steps_seen k l.steps) ≡ some_step is_name_list u (steps_seen k (drop l.step-index l.steps)))
