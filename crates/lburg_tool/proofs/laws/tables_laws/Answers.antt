use Rattle.lburg_tool.proofs.Apart.{tables_apart, tables_one}
use Rattle.lburg_tool.proofs.laws.tables_laws.Goals as goal

pub returns-clause-apart : goal.returns-clause-apart
returns-clause-apart c = tables_apart c.one_fault.ensures.none

pub returns-clause-one : goal.returns-clause-one
returns-clause-one c = tables_one c.one_fault.ensures.one
