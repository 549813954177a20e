use Rattle.c_decl.proofs.Places.{some_second, none_second}
use Rattle.c_decl.proofs.next.second.Goals as goal

pub returns-clause-some : goal.returns-clause-some
returns-clause-some c = some_second c.args.p.now c.after.result c.after.ensures

pub returns-clause-none : goal.returns-clause-none
returns-clause-none c = none_second c.args.p.now c.after.result c.after.ensures
