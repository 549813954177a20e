use Rattle.c_units.proofs.StatementFaults.{stmt_first}
use Rattle.c_units.proofs.StatementRows.{stmt_rows}
use Rattle.c_units.proofs.UnitFaults.{unit_first}
use Rattle.c_units.proofs.UnitRows.{unit_rows}
use Rattle.c_units.proofs.laws.typing_units_is_a_function.Goals as goal

pub returns-clause-statements : goal.returns-clause-statements
returns-clause-statements c = stmt_rows

pub returns-clause-units : goal.returns-clause-units
returns-clause-units c = unit_rows

pub returns-clause-statement_faults : goal.returns-clause-statement_faults
returns-clause-statement_faults c = λ f a s b t. (stmt_first f a s b t).same

pub returns-clause-unit_faults : goal.returns-clause-unit_faults
returns-clause-unit_faults c = λ u. (unit_first u).same
