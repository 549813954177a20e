use Rattle.c_values.specs.Stays.{grows_on}
use Rattle.c_check_expr.proofs.step_types.pointer.Goals as goal

pub returns-in_err-of-clause-grows : goal.returns-in_err-of-clause-grows
returns-in_err-of-clause-grows c = grows_on c.args.types.now c.added.new.types c.qualified.new.self c.in_ok-id.ensures.grows c.in_err-of.ensures.grows

pub returns-clause-grows : goal.returns-clause-grows
returns-clause-grows c = grows_on c.args.types.now c.added.new.types c.qualified.new.self c.in_ok-id.ensures.grows c.in_ok-of.ensures.grows
