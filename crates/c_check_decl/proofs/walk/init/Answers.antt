use Rattle.std.proofs.Common.{length}
use Rattle.c_check_expr.specs.Kept.{below_later}
use Rattle.c_check_expr.specs.PartsSeen.{specified_seen}
use Rattle.c_check_decl.proofs.InitWalks.{init_goes, init_stops, init_stops_second}
use Rattle.c_check_decl.proofs.walk.init.Goals as goal

pub at_whole-requires-clause-of : goal.at_whole-requires-clause-of
at_whole-requires-clause-of c =
    let t = c.name.new.types in
    let u = c.maybe_initialised.new.types in
    c.filled_type.ensures.within (length u.forms) (below_later t u c.in_ok-filled.ensures.keeps.extends c.type_here.result c.type_here.ensures.within) c.in_ok-filled.ensures.within

pub at_whole-requires-clause-own : goal.at_whole-requires-clause-own
at_whole-requires-clause-own c = below_later c.name.new.types c.maybe_initialised.new.types c.in_ok-filled.ensures.keeps.extends c.in_ok-n.n.of c.in_ok-n.ensures.within

pub returns-in_err-n : goal.returns-in_err-n
returns-in_err-n c =
    let a = c.args.types.now in
    init_stops c.args.scopes.now a c.args.line (specified_seen a c.args.base.now) c.args.i.now
    c.name.new.scopes c.name.new.types c.in_err-n.field-0.0 c.from_residual-in_err-n.result c.from_residual-in_err-n.ensures.1 c.in_err-n.ensures

pub returns-in_err-filled : goal.returns-in_err-filled
returns-in_err-filled c =
    let a = c.args.types.now in
    init_stops_second c.args.scopes.now a c.args.line (specified_seen a c.args.base.now) c.args.i.now
    c.name.new.scopes c.name.new.types c.in_ok-n.n c.type_here.result c.initialised-object.result c.in_ok-n.ensures c.type_here.ensures.means c.initialised-object.ensures.is
    c.maybe_initialised.new.scopes c.maybe_initialised.new.types c.in_err-filled.field-0.0 c.from_residual-in_err-filled.result c.from_residual-in_err-filled.ensures.1 c.in_err-filled.ensures

pub returns : goal.returns
returns c =
    let a = c.args.types.now in
    let u = c.maybe_initialised.new.types in
    init_goes c.args.scopes.now a c.args.line (specified_seen a c.args.base.now) c.args.i.now
    c.name.new.scopes c.name.new.types c.in_ok-n.n c.type_here.result c.initialised-object.result c.in_ok-n.ensures c.type_here.ensures.means c.initialised-object.ensures.is
    c.maybe_initialised.new.scopes c.at_whole.new.scopes u c.at_whole.new.types c.in_ok-filled.filled c.filled_type.result c.in_ok-place.place c.at_whole.result
    c.in_ok-filled.ensures c.type_here.ensures.within (c.filled_type.ensures.means u) (c.in_ok-place.ensures a) c.at_whole.ensures
