use Rattle.c_ast.specs.Seen.{declarator_seen}
use Rattle.c_check_expr.proofs.WalkTypes.{shape_goes, shape_stops}
use Rattle.c_check_expr.proofs.public.shape_of.Goals as goal

pub returns-in_err-steps : goal.returns-in_err-steps
returns-in_err-steps c = shape_stops c.args.base (declarator_seen c.args.d.now) c.from_residual.result c.from_residual.ensures.1 c.in_err-steps.ensures

pub returns : goal.returns
returns c = let k = c.shape.ensures in shape_goes c.args.base (declarator_seen c.args.d.now) c.shape.result c.requires.base c.in_ok-steps.ensures k.ok k.err k.within k.grows
