use Rattle.c_calls_agree.proofs.lemmas.Callees as callees
use Rattle.c_calls_agree.proofs.laws.calls_come.Goals as goal

pub returns : goal.returns
returns c = callees.calls_come
