use Rattle.c_ast.specs.Seen.{expr_seen}
use Rattle.c_stmt_parts.specs.BodiesSeen.{around_seen}
use Rattle.c_check_stmt.proofs.ExpressionLeaves.{evaluate_goes, evaluate_stops, evaluate_told}
use Rattle.c_check_stmt.proofs.leaves.evaluate_expression.Goals as goal

pub returns-in_err-c : goal.returns-in_err-c
returns-in_err-c c =
    let p = c.args.spot.now in
    evaluate_stops p.within.now (around_seen p.around) c.args.scopes.now c.args.types.now c.args.body.now p.line (expr_seen c.args.e.now) c.from_residual.result c.from_residual.ensures.1 c.in_err-c.ensures

pub returns-in_err-value : goal.returns-in_err-value
returns-in_err-value c =
    let p = c.args.spot.now in
    evaluate_told p.within.now (around_seen p.around) c.args.scopes.now c.args.types.now c.args.body.now p.line (expr_seen c.args.e.now) c.in_ok-c.ensures c.in_err-value.field-0.0 c.from_residual-in_err-value.result c.from_residual-in_err-value.ensures.1 c.evaluated.ensures.grows c.in_err-value.ensures.told

pub returns : goal.returns
returns c =
    let p = c.args.spot.now in
    evaluate_goes p.within.now (around_seen p.around) c.args.scopes.now c.args.types.now c.args.body.now p.line (expr_seen c.args.e.now) c.in_ok-c.ensures c.requires.ready.body c.in_ok-value.value c.evaluated.ensures.grows c.in_ok-value.ensures.sound c.in_ok-value.ensures.ok c.in_ok-value.ensures.within
