use Rattle.std.proofs.Common.{subst, sym}
use Rattle.c_ast.specs.UnitViews.{unit_of}
use Rattle.c_units.specs.UnitsRelation.{TypesUnit}
use Rattle.c_check_unit.specs.WholeSeen.{whole_seen}
use Rattle.c_check_unit.proofs.checking.check_unit.Goals as goal

pub core-requires-clause-unit : goal.core-requires-clause-unit
core-requires-clause-unit c =
    let k = c.in_ok-whole.ensures.typed in
    λ n. c.typed_units_are_units.ensures (unit_of c.args.unit.now) k.0 (whole_seen c.in_ok-whole.whole) c.requires.levels.1 c.requires.names k.1 n

pub returns-clause-typed : goal.returns-clause-typed
returns-clause-typed c =
    let k = c.in_ok-whole.ensures.typed in
    (k.0, subst (TypesUnit (unit_of c.args.unit.now) k.0) (sym c.in_ok-core.ensures) k.1)
