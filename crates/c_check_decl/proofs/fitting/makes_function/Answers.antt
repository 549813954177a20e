use Rattle.std.proofs.Common.{sym, ap, ◌∙◌}
use Rattle.c_types.specs.Table.{type_at}
use Rattle.c_meaning.specs.TypeRows.{formed}
use Rattle.c_meaning.specs.Types.{is_function}
use Rattle.c_check_expr.specs.PartsSeen.{steps_seen}
use Rattle.c_check_decl.proofs.LastSteps.{formed_split}
use Rattle.c_check_decl.proofs.fitting.makes_function.Goals as goal

pub returns-in-Some : goal.returns-in-Some
returns-in-Some c =
    let t = c.args.types.now in
    let u = type_at t c.args.base in
    let before = c.in-Some.field-0-1.now in
    c.is_function_step.ensures t (formed u (steps_seen t before)) ∙ sym (ap is_function (formed_split u t c.args.steps.now before c.in-Some.step.now c.in-Some.ensures.cases.0))
