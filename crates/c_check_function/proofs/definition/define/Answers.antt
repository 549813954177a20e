use Rattle.c_ast.specs.Seen.{declarator_seen}
use Rattle.c_check_expr.specs.PartsSeen.{specified_seen}
use Rattle.c_check_function.proofs.DefinitionWalks.{definition_goes, definition_stops}
use Rattle.c_check_function.proofs.definition.define.Goals as goal

pub returns-in_err-declared : goal.returns-in_err-declared
returns-in_err-declared c = definition_stops c.args.scopes.now c.declarator.new.scopes c.args.types.now c.declarator.new.types c.args.line (specified_seen c.args.types.now c.args.base.now) (declarator_seen c.args.d.now) c.in_err-declared.field-0.0 c.from_residual.result c.from_residual.ensures.1 c.in_err-declared.ensures

pub returns : goal.returns
returns c = definition_goes c.args.scopes.now c.declarator.new.scopes c.define_checked.new.scopes c.args.types.now c.declarator.new.types c.define_checked.new.types c.args.line c.args.base.now (declarator_seen c.args.d.now) c.in_ok-declared.declared c.define_checked.result c.requires.base c.in_ok-declared.ensures c.define_checked.ensures
