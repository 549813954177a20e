use Rattle.c_ast.specs.Seen.{maybe_expr_seen}
use Rattle.c_check_expr.specs.Kept.{below_later}
use Rattle.c_stmt_parts.specs.BodiesSeen.{around_seen}
use Rattle.c_stmt_parts.proofs.lemmas.HeadWalks.{maybe_walk}
use Rattle.c_check_stmt.proofs.ExpressionLeaves.{return_goes, return_stops, return_told}
use Rattle.c_check_stmt.proofs.leaves.return_.Goals as goal

pub returned-requires-clause-to : goal.returned-requires-clause-to
returned-requires-clause-to c = below_later c.args.types.now c.maybe_expression.new.types c.in_ok-c.ensures.keeps.extends c.args.spot.now.within.now.result c.requires.ready.result

pub returned-requires-clause-within : goal.returned-requires-clause-within
returned-requires-clause-within c = (maybe_walk _ c.in_ok-c.ensures).within

pub returns-in_err-c : goal.returns-in_err-c
returns-in_err-c c =
    let p = c.args.spot.now in
    return_stops p.within.now (around_seen p.around) c.args.scopes.now c.args.types.now c.args.body.now p.line (maybe_expr_seen c.args.e.now) c.from_residual.result c.from_residual.ensures.1 c.in_err-c.ensures

pub returns-in_err-value : goal.returns-in_err-value
returns-in_err-value c =
    let p = c.args.spot.now in
    return_told p.within.now (around_seen p.around) c.args.scopes.now c.args.types.now c.args.body.now p.line (maybe_expr_seen c.args.e.now) c.requires.ready.result c.in_ok-c.ensures c.in_err-value.field-0.0 c.from_residual-in_err-value.result c.from_residual-in_err-value.ensures.1 c.returned.ensures.grows c.in_err-value.ensures.told

pub returns : goal.returns
returns c =
    let p = c.args.spot.now in
    return_goes p.within.now (around_seen p.around) c.args.scopes.now c.args.types.now c.args.body.now p.line (maybe_expr_seen c.args.e.now) c.requires.ready.result c.in_ok-c.ensures c.requires.ready.body c.in_ok-value.value c.returned.ensures.grows c.in_ok-value.ensures.sound c.in_ok-value.ensures.ok c.in_ok-value.ensures.within
