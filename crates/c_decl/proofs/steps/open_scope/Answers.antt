use Rattle.std.proofs.Common.{ap, ◌∙◌}
use Rattle.c_expr.specs.State.{ahead}
use Rattle.c_decl.proofs.Places.{where_ok, opened_ahead, goes_named}
use Rattle.c_decl.proofs.steps.open_scope.Goals as goal

pub returns-clause-open : goal.returns-clause-open
returns-clause-open c = ap ahead (where_ok c.open_scope.result c.is_err.result c.is_err.ensures.value c.if-is_err.false c.open_scope.ensures.ok) ∙ opened_ahead c.args.p.now

pub returns-clause-going : goal.returns-clause-going
returns-clause-going c = goes_named c.args.p.now c.open_scope.new.self _ c.requires.sound (where_ok c.open_scope.result c.is_err.result c.is_err.ensures.value c.if-is_err.false c.open_scope.ensures.ok)
