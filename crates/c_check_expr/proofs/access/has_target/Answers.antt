use Rattle.std.proofs.Common.{◌∙◌, sym}
use Rattle.c_check_expr.proofs.TableLimits.{within_target}
use Rattle.c_check_expr.proofs.access.has_target.Goals as goal

pub returns-clause-limits : goal.returns-clause-limits
returns-clause-limits c = λ e. within_target c.args.types.now c.target.result _ c.types_are_within_limits.ensures c.target.ensures.to c.target.ensures.within (sym c.is_some.ensures ∙ e)
