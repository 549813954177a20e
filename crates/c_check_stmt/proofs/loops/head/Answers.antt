use Rattle.c_ast.specs.Seen.{maybe_expr_seen}
use Rattle.c_stmt_parts.proofs.lemmas.HeadWalks.{head_goes, head_stops, head_stops_second, head_stops_third}
use Rattle.c_check_stmt.proofs.loops.head.Goals as goal

pub returns-in_err-first : goal.returns-in_err-first
returns-in_err-first c =
    head_stops c.args.scopes.now c.args.types.now (maybe_expr_seen c.args.parts.now.first) (maybe_expr_seen c.args.parts.now.test) (maybe_expr_seen c.args.parts.now.last) c.from_residual.result c.from_residual.ensures.1 c.in_err-first.ensures

pub returns-in_err-test : goal.returns-in_err-test
returns-in_err-test c =
    head_stops_second c.args.scopes.now c.args.types.now (maybe_expr_seen c.args.parts.now.first) (maybe_expr_seen c.args.parts.now.test) (maybe_expr_seen c.args.parts.now.last) c.in_ok-first.ensures c.from_residual-in_err-test.result c.from_residual-in_err-test.ensures.1 c.in_err-test.ensures

pub returns-in_err-last : goal.returns-in_err-last
returns-in_err-last c =
    head_stops_third c.args.scopes.now c.args.types.now (maybe_expr_seen c.args.parts.now.first) (maybe_expr_seen c.args.parts.now.test) (maybe_expr_seen c.args.parts.now.last) c.in_ok-first.ensures c.in_ok-test.ensures c.from_residual-in_err-last.result c.from_residual-in_err-last.ensures.1 c.in_err-last.ensures

pub returns : goal.returns
returns c = head_goes c.args.scopes.now c.args.types.now (maybe_expr_seen c.args.parts.now.first) (maybe_expr_seen c.args.parts.now.test) (maybe_expr_seen c.args.parts.now.last) c.in_ok-first.ensures c.in_ok-test.ensures c.in_ok-last.ensures
