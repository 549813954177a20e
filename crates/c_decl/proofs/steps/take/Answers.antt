use Rattle.std.proofs.Common.{ap, ◌∙◌}
use Rattle.c_expr.specs.State.{ahead}
use Rattle.c_decl.proofs.Places.{passed, goes_one}
use Rattle.c_decl.proofs.steps.take.Goals as goal

pub returns-clause-beyond : goal.returns-clause-beyond
returns-clause-beyond c = ap ahead c.pass.ensures ∙ passed c.args.p.now

pub returns-clause-going : goal.returns-clause-going
returns-clause-going c = goes_one c.args.p.now c.pass.new.self c.requires.sound c.requires.left c.pass.ensures
