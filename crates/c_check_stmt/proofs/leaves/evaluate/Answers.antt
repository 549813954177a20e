use Rattle.c_stmt_parts.specs.BodiesSeen.{around_seen}
use Rattle.c_check_stmt.proofs.ExpressionLeaves.{evaluate_none}
use Rattle.c_check_stmt.proofs.leaves.evaluate.Goals as goal

pub returns-in-None : goal.returns-in-None
returns-in-None c =
    let p = c.args.spot.now in
    evaluate_none p.within.now (around_seen p.around) c.args.scopes.now c.args.types.now c.args.body.now p.line c.args.e.now c.in-None.is c.requires.symbols c.requires.ready.body
