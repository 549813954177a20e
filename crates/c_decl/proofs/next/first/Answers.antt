use Rattle.c_decl.proofs.Places.{some_first, no_first, first_left}
use Rattle.c_decl.proofs.next.first.Goals as goal

pub returns-clause-some : goal.returns-clause-some
returns-clause-some c = some_first c.args.p.now c.token.result c.token.ensures

pub returns-clause-none : goal.returns-clause-none
returns-clause-none c = no_first c.args.p.now c.token.result c.token.ensures

pub returns-clause-left : goal.returns-clause-left
returns-clause-left c = first_left c.args.p.now c.token.result c.token.ensures
