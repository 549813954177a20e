use Rattle.lowering_limits.proofs.OneFault.{none_within, one_limit}
use Rattle.lowering_limits.proofs.laws.one_limit.Goals as goal

pub returns-clause-one : goal.returns-clause-one
returns-clause-one c = one_limit

pub returns-clause-within : goal.returns-clause-within
returns-clause-within c = none_within
