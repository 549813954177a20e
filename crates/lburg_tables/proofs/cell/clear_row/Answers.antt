use Rattle.std.proofs.Common.{◌<◌, length, refl, arith}
use Rattle.lburg_tables.proofs.lemmas.RowLaws.{cleared_more}
use Rattle.lburg_tables.proofs.cell.clear_row.Goals as goal

pub loop-n-preserved : goal.loop-n-preserved
loop-n-preserved c =
    let inside : c.loop-n.n < length c.loop-n.row = (let h = c.loop-n-test.true in let e = c.loop-n.auto.row in omega arith) in
    cleared_more c.loop-n.row c.loop-n.n _ inside refl c.loop-n.invariant
