use Rattle.c_runs.proofs.lemmas.Equations.{loop_is, jump_is}
use Rattle.c_runs.proofs.lemmas.AlikeCalls.{call_is}
use Rattle.c_runs.proofs.laws.turns_are_repetitions.Goals as goal

pub returns-clause-loops : goal.returns-clause-loops
returns-clause-loops c = loop_is

pub returns-clause-gotos : goal.returns-clause-gotos
returns-clause-gotos c = jump_is

pub returns-clause-calls : goal.returns-clause-calls
returns-clause-calls c = call_is
