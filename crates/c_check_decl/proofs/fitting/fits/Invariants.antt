use Rattle.std.proofs.Common.{◌≡◌, ◌<◌, length}
use Rattle.c_types.specs.Compatible.{compatible}
use Rattle.c_types.specs.Table.{type_at}
use Rattle.c_meaning.specs.TypeRows.{formed}
use Rattle.c_check_expr.specs.PartsSeen.{AreStepsIn, steps_seen}
use Rattle.c_check_decl.specs.Fitting.{under}
use Rattle.c_check_decl.proofs.fitting.fits.Given as goal

abbrev pub invariant-loop-step : goal.invariant-loop-step
invariant-loop-step l = record {
  within : l.of.0 < length l.types.forms;
  rest : AreStepsIn (length l.types.forms) l.left;
  same : compatible (formed (type_at l.types l.base) (steps_seen l.types l.left)) (under l.types l.of) ≡ compatible (formed (type_at l.types l.base) (steps_seen l.types l.fn.steps)) (type_at l.types l.fn.other);
}

abbrev pub decreases-loop-step : goal.decreases-loop-step
decreases-loop-step l = length l.left
