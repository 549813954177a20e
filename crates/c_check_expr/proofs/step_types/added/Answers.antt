use Rattle.std.proofs.Common.{sym, subst}
use Rattle.c_types.specs.Table.{Grows}
use Rattle.c_values.specs.Stays.{grows_itself}
use Rattle.c_check_expr.proofs.StepTypes.{refused_deep}
use Rattle.c_check_expr.proofs.step_types.added.Goals as goal

pub returns-in-Err-clause-deep : goal.returns-in-Err-clause-deep
returns-in-Err-clause-deep c =
    let r = c.type_refusal.ensures in
    refused_deep c.args.types.now c.args.form c.requires.element c.requires.size c.in-Err.fault c.type_refusal.result c.args.line c.in-Err.ensures.refused r.deep r.other

pub returns-in-Err-clause-grows : goal.returns-in-Err-clause-grows
returns-in-Err-clause-grows c = let t = c.args.types.now in subst (Grows t) (sym c.in-Err.ensures.err) (grows_itself t)
