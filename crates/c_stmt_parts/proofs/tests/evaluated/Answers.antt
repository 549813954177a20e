use Rattle.std.proofs.Common.{refl, sym, ap}
use Rattle.std.specs.Prelude.{None}
use Rattle.std.proofs.lemmas.Result.{IfErr-weaker, on_ok_weaker}
use Rattle.c_meaning.specs.CoreTrees.{line_of}
use Rattle.c_check_expr.specs.Walks.{core}
use Rattle.c_units.specs.Statements as node
use Rattle.c_stmt_parts.proofs.NodeFaults.{evaluate_first, limit_by, sound_by}
use Rattle.c_stmt_parts.proofs.ValueLimits.{value_sound, value_told}
use Rattle.c_stmt_parts.proofs.tests.evaluated.Goals as goal

pub returns-clause-sound : goal.returns-clause-sound
returns-clause-sound c =
    let t = c.args.types.now in
    let x = core t c.args.e in
    on_ok_weaker c.into_value.result
    (λ d. sound_by t c.args.line (node.Expression x) (λ g. None) (evaluate_first x) refl (value_sound t c.args.e c.types_are_within_limits.ensures c.requires d))
    c.into_value.ensures.shallow

pub returns-clause-told : goal.returns-clause-told
returns-clause-told c =
    let t = c.args.types.now in
    let x = core t c.args.e in
    IfErr-weaker c.into_value.result _ _
    (λ f d. limit_by t c.args.line (node.Expression x) (λ g. None) (evaluate_first x) f refl (value_told t c.args.e c.types_are_within_limits.ensures c.requires f c.e.inside.line (ap line_of (sym c.e.view_is)) d))
    c.into_value.ensures.deep
