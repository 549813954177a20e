use Rattle.c_ast.specs.SeenUnits.{boxed_initialiser_seen}
use Rattle.c_ast.specs.UnitViews.{option_of}
use Rattle.c_types.specs.Table.{type_at}
use Rattle.c_check_decl.proofs.WholeWalks.{whole_goes, whole_stops}
use Rattle.c_check_decl.proofs.whole.at_whole.Goals as goal

pub returns-in-Some : goal.returns-in-Some
returns-in-Some c =
    whole_stops c.args.scopes.now c.args.types.now c.args.spot.line c.args.spot.own c.args.spot.place (type_at c.args.types.now c.args.spot.of) c.args.named.0.now (option_of boxed_initialiser_seen c.args.named.1.now) c.args.filled c.is_some-initialised.result c.is_some-initialised.ensures
    c.in-Some.number c.requires.symbols c.in-Some.ensures

pub returns : goal.returns
returns c =
    let i = option_of boxed_initialiser_seen c.args.named.1.now in
    whole_goes c.args.scopes.now c.args.types.now c.args.spot.line c.args.spot.own c.args.spot.place (type_at c.args.types.now c.args.spot.of) c.args.named.0.now i c.args.filled c.is_some-initialised.result c.is_some-initialised.ensures
    c.define.new.scopes c.define.new.types c.in_ok-declared.declared c.in_default.ensures (c.in_ok-declared.ensures.is i c.is_zeroed-zero.ensures) c.in_ok-declared.ensures.within c.in_ok-define.ensures.state c.in_ok-define.ensures.keeps
