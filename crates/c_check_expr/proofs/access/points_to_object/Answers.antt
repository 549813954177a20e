use Rattle.c_check_expr.proofs.TableLimits.{within_in}
use Rattle.c_check_expr.proofs.access.points_to_object.Goals as goal

pub returns-in-Some-clause-limits : goal.returns-in-Some-clause-limits
returns-in-Some-clause-limits c = λ e. rw (c.in-Some.ensures.to) (within_in c.args.types.now c.types_are_within_limits.ensures c.in-Some.to c.in-Some.ensures.within)
