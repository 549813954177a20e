use Rattle.c_ast.specs.Seen.{declarator_seen, specifiers_seen}
use Rattle.c_check_expr.proofs.PublicWalks.{declared_goes, declared_stops, declared_stops_second}
use Rattle.c_check_expr.proofs.public.declared.Goals as goal

pub returns-in_err-base : goal.returns-in_err-base
returns-in_err-base c = declared_stops (specifiers_seen c.args.s.now) (declarator_seen c.args.d.now) c.from_residual.result c.from_residual.ensures.1 c.in_err-base.ensures

pub returns-in_err-shape : goal.returns-in_err-shape
returns-in_err-shape c = declared_stops_second (specifiers_seen c.args.s.now) (declarator_seen c.args.d.now) c.from_residual-in_err-shape.result c.from_residual-in_err-shape.ensures.1 c.in_ok-base.ensures c.in_err-shape.ensures

pub returns : goal.returns
returns c = declared_goes (specifiers_seen c.args.s.now) (declarator_seen c.args.d.now) c.in_ok-base.ensures c.in_ok-shape.ensures
