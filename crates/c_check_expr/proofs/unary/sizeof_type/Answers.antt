use Rattle.c_check_expr.proofs.OneOperand.{size_none, size_some}
use Rattle.c_check_expr.proofs.unary.sizeof_type.Goals as goal

pub returns-in-Some-clause-ok : goal.returns-in-Some-clause-ok
returns-in-Some-clause-ok c = λ s h.
    rw (c.leaf.ensures, c.basic_type-number.ensures.is, c.basic_type-number.ensures.means)
    (size_some s c.args.line c.in-Some.size _ (rw h c.in-Some.ensures))

pub returns-in-None-clause-err : goal.returns-in-None-clause-err
returns-in-None-clause-err c = λ s h. size_none s c.args.line _ (rw h c.in-None.ensures)
