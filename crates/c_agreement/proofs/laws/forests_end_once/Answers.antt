use Rattle.c_agreement.proofs.lemmas.Ends.{ends_once, stays_stuck}
use Rattle.c_agreement.proofs.laws.forests_end_once.Goals as goal

pub returns-clause-ends : goal.returns-clause-ends
returns-clause-ends c = ends_once

pub returns-clause-stuck : goal.returns-clause-stuck
returns-clause-stuck c = stays_stuck
