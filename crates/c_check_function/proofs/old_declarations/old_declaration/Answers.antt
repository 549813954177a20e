use Rattle.c_check_function.proofs.OldLists.{declaration_breaks, declaration_goes, declaration_stops, declaration_stops_second}
use Rattle.c_check_function.proofs.old_declarations.old_declaration.Goals as goal

pub returns-in_err-base : goal.returns-in_err-base
returns-in_err-base c =
    declaration_stops c.args.scopes.now c.args.types.now c.args.names.now c.args.d.now c.as_slice-list.result.now c.as_slice-list.ensures
    c.inside.new.scopes c.inside.new.types c.in_err-base.field-0.0 c.from_residual.result c.from_residual.ensures.1 c.in_err-base.ensures

pub returns-in_err-old_parameters : goal.returns-in_err-old_parameters
returns-in_err-old_parameters c =
    declaration_stops_second c.args.scopes.now c.args.types.now c.args.names.now c.args.d.now c.as_slice-list.result.now c.as_slice-list.ensures
    c.inside.new.scopes c.inside.new.types c.in_ok-base.base c.in_ok-base.ensures
    c.old_parameters.new.scopes c.old_parameters.new.types c.in_err-old_parameters.field-0.0 c.from_residual-in_err-old_parameters.result c.from_residual-in_err-old_parameters.ensures.1 c.in_err-old_parameters.ensures

pub returns-in-Some : goal.returns-in-Some
returns-in-Some c =
    declaration_breaks c.args.scopes.now c.args.types.now c.args.names.now c.args.d.now c.as_slice-list.result.now c.as_slice-list.ensures
    c.inside.new.scopes c.inside.new.types c.in_ok-base.base c.in_ok-base.ensures
    c.old_parameters.new.scopes c.old_parameters.new.types c.broken.result c.in_ok-old_parameters.ensures (c.broken.ensures c.old_parameters.new.types) c.in-Some.number c.in-Some.is

pub returns : goal.returns
returns c =
    declaration_goes c.args.scopes.now c.args.types.now c.args.names.now c.args.d.now c.as_slice-list.result.now c.as_slice-list.ensures
    c.inside.new.scopes c.inside.new.types c.in_ok-base.base c.in_ok-base.ensures
    c.old_parameters.new.scopes c.old_parameters.new.types c.broken.result c.in_ok-old_parameters.ensures (c.broken.ensures c.old_parameters.new.types) c.in_default.is
