use Rattle.c_meaning.proofs.lemmas.Threads.{is_decided}
use Rattle.c_units.specs.Bodies.{typed_stmt}
use Rattle.c_units.specs.Typing.{typed_unit}
use Rattle.c_units.proofs.StatementFaults.{stmt_first}
use Rattle.c_units.proofs.StatementRows.{stmt_rows}
use Rattle.c_units.proofs.UnitFaults.{unit_first}
use Rattle.c_units.proofs.UnitRows.{unit_rows}
use Rattle.c_units.proofs.laws.typing_units_is_decided.Goals as goal

pub returns-clause-statements : goal.returns-clause-statements
returns-clause-statements c = λ f a s b t. is_decided (typed_stmt f a s b t) _ _ (stmt_rows f a s b t) ((stmt_first f a s b t).same)

pub returns-clause-units : goal.returns-clause-units
returns-clause-units c = λ u. is_decided (typed_unit u) _ _ (unit_rows u) ((unit_first u).same)
