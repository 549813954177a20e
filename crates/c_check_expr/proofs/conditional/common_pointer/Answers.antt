use Rattle.c_values.specs.Stays.{grows_on}
use Rattle.c_check_expr.proofs.conditional.common_pointer.Goals as goal

pub returns-clause-grows : goal.returns-clause-grows
returns-clause-grows c = grows_on c.args.types.now c.common_target.new.types c.pointer_type.new.types c.common_target.ensures.grows c.pointer_type.ensures.grows
