use Rattle.c_check_expr.proofs.NameNodes.{integer_fine}
use Rattle.c_check_expr.proofs.names.integer.Goals as goal

pub returns-clause-ok : goal.returns-clause-ok
returns-clause-ok c = λ s h.
    rw (c.leaf.ensures, c.basic_type-of.ensures.is, c.basic_type-of.ensures.means, c.constant_type.ensures.means)
    (integer_fine s c.args.line c.args.value c.args.kind)
