use Rattle.std.proofs.Common.{arith}
use Rattle.c_eval.proofs.Counts.{not_one}
use Rattle.c_eval.proofs.form.one_part.Goals as goal

pub returns-in-empty-clause-none : goal.returns-in-empty-clause-none
returns-in-empty-clause-none c = not_one c.args.e.now c.e.inside.what c.e.inside.of c.e.inside.line c.e.inside.kids c.as_slice.result.now c.e.view_is c.as_slice.ensures (λ h. omega arith)

pub returns-in-len2-up-clause-none : goal.returns-in-len2-up-clause-none
returns-in-len2-up-clause-none c = not_one c.args.e.now c.e.inside.what c.e.inside.of c.e.inside.line c.e.inside.kids c.as_slice.result.now c.e.view_is c.as_slice.ensures (λ h. omega arith)
