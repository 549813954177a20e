use Rattle.c_ast.specs.Seen.{declarator_seen}
use Rattle.c_check_expr.specs.Kept.{below_later}
use Rattle.c_check_expr.specs.PartsSeen.{specified_seen}
use Rattle.c_check_decl.proofs.NameWalks.{name_goes, name_stops}
use Rattle.c_check_decl.proofs.forming.name.Goals as goal

pub returns-in_err-declared : goal.returns-in_err-declared
returns-in_err-declared c = name_stops c.args.scopes.now c.declarator.new.scopes c.args.types.now c.declarator.new.types c.args.line (specified_seen c.args.types.now c.args.base.now) (declarator_seen c.args.d.now) c.in_err-declared.field-0.0 c.from_residual.result c.from_residual.ensures.1 c.in_err-declared.ensures

pub named-requires-clause-base : goal.named-requires-clause-base
named-requires-clause-base c = below_later c.args.types.now c.declarator.new.types c.in_ok-declared.ensures.keeps.extends c.args.base.now.of c.requires.base

pub returns : goal.returns
returns c = name_goes c.args.scopes.now c.declarator.new.scopes c.named.new.scopes c.args.types.now c.declarator.new.types c.named.new.types c.args.line c.args.base.now (declarator_seen c.args.d.now) c.in_ok-declared.declared c.named.result c.requires.base c.in_ok-declared.ensures c.named.ensures
