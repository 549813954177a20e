use Rattle.std.proofs.Common.{ap, ◌∙◌}
use Rattle.c_expr.specs.State.{ahead}
use Rattle.c_decl.proofs.Places.{where_ok, reopened_ahead, goes_named}
use Rattle.c_decl.proofs.steps.reopen_scope.Goals as goal

pub returns-clause-open : goal.returns-clause-open
returns-clause-open c = ap ahead (where_ok c.reopen_scope.result c.is_err.result c.is_err.ensures.value c.if-is_err.false c.reopen_scope.ensures.ok) ∙ reopened_ahead c.args.p.now

pub returns-clause-going : goal.returns-clause-going
returns-clause-going c = goes_named c.args.p.now c.reopen_scope.new.self _ c.requires.sound (where_ok c.reopen_scope.result c.is_err.result c.is_err.ensures.value c.if-is_err.false c.reopen_scope.ensures.ok)
