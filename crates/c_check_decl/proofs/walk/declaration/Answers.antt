use Rattle.c_check_decl.proofs.DeclarationWalks.{declaration_breaks, declaration_goes, declaration_stops, declaration_stops_second}
use Rattle.c_check_decl.proofs.walk.declaration.Goals as goal

pub returns-in_err-base : goal.returns-in_err-base
returns-in_err-base c =
    declaration_stops c.args.scopes.now c.args.types.now c.args.d.now c.as_slice-list.result.now c.as_slice-list.ensures
    c.own_specifiers.new.scopes c.own_specifiers.new.types c.in_err-base.field-0.0 c.from_residual.result c.from_residual.ensures.1 c.in_err-base.ensures

pub returns-in_err-all : goal.returns-in_err-all
returns-in_err-all c =
    declaration_stops_second c.args.scopes.now c.args.types.now c.args.d.now c.as_slice-list.result.now c.as_slice-list.ensures
    c.own_specifiers.new.scopes c.own_specifiers.new.types c.in_ok-base.base c.in_ok-base.ensures
    c.inits.new.scopes c.inits.new.types c.in_err-all.field-0.0 c.from_residual-in_err-all.result c.from_residual-in_err-all.ensures.1 c.in_err-all.ensures

pub returns-then-not-declares_something : goal.returns-then-not-declares_something
returns-then-not-declares_something c =
    declaration_breaks c.args.scopes.now c.args.types.now c.args.d.now c.as_slice-list.result.now c.as_slice-list.ensures
    c.own_specifiers.new.scopes c.own_specifiers.new.types c.in_ok-base.base c.in_ok-base.ensures
    c.inits.new.scopes c.inits.new.types c.in_ok-all.all c.declares_something.result c.in_ok-all.ensures c.declares_something.ensures c.if-not-declares_something.true

pub returns : goal.returns
returns c =
    declaration_goes c.args.scopes.now c.args.types.now c.args.d.now c.as_slice-list.result.now c.as_slice-list.ensures
    c.own_specifiers.new.scopes c.own_specifiers.new.types c.in_ok-base.base c.in_ok-base.ensures
    c.inits.new.scopes c.inits.new.types c.in_ok-all.all c.declares_something.result c.in_ok-all.ensures c.declares_something.ensures c.if-not-declares_something.false
