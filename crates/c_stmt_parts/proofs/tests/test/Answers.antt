use Rattle.std.proofs.Common.{sym, ap}
use Rattle.std.proofs.lemmas.Result.{IfErr-weaker, on_ok_weaker}
use Rattle.c_meaning.specs.CoreTrees.{line_of}
use Rattle.c_check_expr.specs.Walks.{core}
use Rattle.c_units.specs.Statements as node
use Rattle.c_stmt_parts.specs.Asked.{test_broken}
use Rattle.c_stmt_parts.proofs.NodeFaults.{broken_by, limit_by, sound_by, test_first}
use Rattle.c_stmt_parts.proofs.ValueLimits.{value_sound, value_told}
use Rattle.c_stmt_parts.proofs.tests.test.Goals as goal

pub returns-in-Some-clause-told : goal.returns-in-Some-clause-told
returns-in-Some-clause-told c =
    let t = c.args.types.now in
    let x = core t c.args.e in
    broken_by t c.args.line (node.Test x) (λ g. test_broken g x) (test_first x) c.in-Some.number (sym c.in-Some.ensures)

pub returns-clause-sound : goal.returns-clause-sound
returns-clause-sound c =
    let t = c.args.types.now in
    let x = core t c.args.e in
    on_ok_weaker c.into_value.result
    (λ d. sound_by t c.args.line (node.Test x) (λ g. test_broken g x) (test_first x) (sym c.in_default.ensures) (value_sound t c.args.e c.types_are_within_limits.ensures c.requires d))
    c.into_value.ensures.shallow

pub returns-clause-told : goal.returns-clause-told
returns-clause-told c =
    let t = c.args.types.now in
    let x = core t c.args.e in
    IfErr-weaker c.into_value.result _ _
    (λ f d. limit_by t c.args.line (node.Test x) (λ g. test_broken g x) (test_first x) f (sym c.in_default.ensures) (value_told t c.args.e c.types_are_within_limits.ensures c.requires f c.e.inside.line (ap line_of (sym c.e.view_is)) d))
    c.into_value.ensures.deep
