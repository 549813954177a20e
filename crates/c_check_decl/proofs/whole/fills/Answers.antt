use Rattle.c_check_decl.proofs.WholeDeclares.{fills_pushed, fills_within}
use Rattle.c_check_decl.proofs.whole.fills.Goals as goal

pub returns-clause-is : goal.returns-clause-is
returns-clause-is c = λ t of i. fills_pushed t of i c.args.place c.args.zero c.new-all.result c.args.filled c.in-Some.filled c.push.new.self c.new-all.ensures c.in-Some.is c.in_ok-push.ensures.ok

pub returns-clause-within : goal.returns-clause-within
returns-clause-within c = λ n. fills_within n c.args.place c.args.zero c.new-all.result c.args.filled c.in-Some.filled c.push.new.self c.new-all.ensures c.in-Some.is c.in_ok-push.ensures.ok
