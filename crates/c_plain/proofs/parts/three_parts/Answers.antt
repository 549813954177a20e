use Rattle.std.proofs.Common.{arith}
use Rattle.c_plain.proofs.Counted.{count_is}
use Rattle.c_plain.proofs.parts.three_parts.Goals as goal

pub returns-in-empty-clause-none : goal.returns-in-empty-clause-none
returns-in-empty-clause-none c = λ h.
    let n = count_is c.args.e.now c.e.inside.what c.e.inside.of c.e.inside.line c.e.inside.kids c.as_slice.result.now c.e.view_is c.as_slice.ensures in
    absurd (omega arith)

pub returns-in-len4-up-clause-none : goal.returns-in-len4-up-clause-none
returns-in-len4-up-clause-none c = λ h.
    let n = count_is c.args.e.now c.e.inside.what c.e.inside.of c.e.inside.line c.e.inside.kids c.as_slice.result.now c.e.view_is c.as_slice.ensures in
    absurd (omega arith)
