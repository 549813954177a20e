use Rattle.c_values.specs.Stays.{grows_on}
use Rattle.c_check_expr.specs.Kept.{keeps_on}
use Rattle.c_check_decl.proofs.linked.declare_linked.Goals as goal

pub returns-in-Some-clause-keeps : goal.returns-in-Some-clause-keeps
returns-in-Some-clause-keeps c = keeps_on c.args.scopes.now c.link_name.new.scopes c.compose.new.scopes c.args.types.now c.link_name.new.types c.compose.new.types c.link_name.ensures.keeps c.compose.ensures.keeps

pub returns-in-Some-clause-grows : goal.returns-in-Some-clause-grows
returns-in-Some-clause-grows c = grows_on c.args.types.now c.link_name.new.types c.compose.new.types c.link_name.ensures.grows c.compose.ensures.grows
