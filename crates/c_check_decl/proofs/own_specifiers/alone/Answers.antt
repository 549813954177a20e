use Rattle.c_check_decl.proofs.LoneTagWalks.{alone_goes, alone_stops}
use Rattle.c_check_decl.proofs.own_specifiers.alone.Goals as goal

pub returns-in_err-of : goal.returns-in_err-of
returns-in_err-of c = alone_stops c.args.scopes.now c.lone_tag.new.scopes c.args.types.now c.lone_tag.new.types c.args.line c.args.tag.0 c.args.tag.1 c.args.name.now c.in_err-of.field-0.0 c.from_residual.result c.from_residual.ensures.1 c.in_err-of.ensures

pub returns : goal.returns
returns c = alone_goes c.args.scopes.now c.lone_tag.new.scopes c.args.types.now c.lone_tag.new.types c.specified.new.types c.args.line c.args.tag.0 c.args.tag.1 c.args.name.now c.in_ok-of.of c.specified.result c.in_ok-of.ensures c.specified.ensures.grows c.specified.ensures.ok c.specified.ensures.err c.specified.ensures.within
