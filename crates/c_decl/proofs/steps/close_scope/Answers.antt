use Rattle.std.proofs.Common.{ap, ◌∙◌}
use Rattle.c_expr.specs.State.{ahead}
use Rattle.c_decl.proofs.Places.{closed_ahead, goes_named}
use Rattle.c_decl.proofs.steps.close_scope.Goals as goal

pub returns-clause-closed : goal.returns-clause-closed
returns-clause-closed c = ap ahead c.close_scope.ensures ∙ closed_ahead c.args.p.now

pub returns-clause-going : goal.returns-clause-going
returns-clause-going c = goes_named c.args.p.now c.close_scope.new.self _ c.requires.sound c.close_scope.ensures
