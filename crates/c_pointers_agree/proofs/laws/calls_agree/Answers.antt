use Rattle.c_pointers_agree.proofs.lemmas.Callees.{callees_agree, function_stands}
use Rattle.c_pointers_agree.proofs.laws.calls_agree.Goals as goal

pub returns-clause-callees : goal.returns-clause-callees
returns-clause-callees c = callees_agree

pub returns-clause-functions : goal.returns-clause-functions
returns-clause-functions c = function_stands
