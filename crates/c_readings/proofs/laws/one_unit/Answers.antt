use Rattle.c_ast.specs.InForce.{nothing_in_force}
use Rattle.c_readings.proofs.OnePieces.{one_run}
use Rattle.c_readings.proofs.laws.one_unit.Goals as goal

pub returns : goal.returns
returns c = λ ts u v d e.
    let a = (c.marks_run.ensures ts u).0 d in
    let b = (c.marks_run.ensures ts v).0 e in
    one_run u v nothing_in_force ts a.0 b.0 a.2 b.2
