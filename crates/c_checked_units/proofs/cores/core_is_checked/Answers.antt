use Rattle.std.proofs.Common.{subst}
use Rattle.c_checked_units.specs.Laws.{KeepsLimits}
use Rattle.c_checked_units.proofs.cores.core_is_checked.Goals as goal

pub returns : goal.returns
returns c t s e n h = c.units_are_checked.ensures t s c.args.core.now e n h c.functions-functions.ensures.is (subst KeepsLimits c.types.ensures c.types_are_within_limits.ensures)
