use Rattle.rcc_tool.proofs.Apart.{rcc_apart, rcc_one}
use Rattle.rcc_tool.proofs.laws.rcc_laws.Goals as goal

pub returns-clause-apart : goal.returns-clause-apart
returns-clause-apart c = rcc_apart

pub returns-clause-one : goal.returns-clause-one
returns-clause-one c = rcc_one
