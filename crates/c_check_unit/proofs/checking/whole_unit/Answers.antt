use Rattle.c_ast.specs.UnitViews.{unit_of}
use Rattle.c_check_unit.specs.WholeSeen.{whole_seen}
use Rattle.c_check_unit.proofs.UnitTypings.{constraint_told, limit_told, unit_typed}
use Rattle.c_check_unit.proofs.checking.whole_unit.Goals as goal

pub returns-clause-typed : goal.returns-clause-typed
returns-clause-typed c =
    unit_typed c.args.unit.now whole_seen c.checked.result (c.typing_units_is_a_function.ensures.units (unit_of c.args.unit.now)) c.checked.ensures.is

pub returns-clause-constraint : goal.returns-clause-constraint
returns-clause-constraint c = λ number line. constraint_told c.args.unit.now c.checked.result number line (c.typing_units_is_a_function.ensures.unit_faults (unit_of c.args.unit.now)) c.checked.ensures.told

pub returns-clause-limit : goal.returns-clause-limit
returns-clause-limit c = λ limit line. limit_told c.args.unit.now c.checked.result limit line (c.typing_units_is_a_function.ensures.unit_faults (unit_of c.args.unit.now)) c.checked.ensures.told
