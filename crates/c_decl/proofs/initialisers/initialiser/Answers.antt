use Rattle.std.proofs.Common.{refl, sym, ◌∙◌}
use Rattle.c_ast.specs.SeenUnits.{initialiser_seen}
use Rattle.c_decl.specs.Productions as production
use Rattle.c_expr.specs.State.{Again}
use Rattle.c_decl.proofs.lemmas.TakingLaws.{if_took, if_stopped}
use Rattle.c_decl.proofs.initialisers.initialiser.Goals as goal

pub returns-in-Some-clause-err : goal.returns-in-Some-clause-err
returns-in-Some-clause-err c = Again c.in-Some.fault (sym c.fault.ensures ∙ c.in-Some.is) refl

pub returns-clause-ok : goal.returns-clause-ok
returns-clause-ok c = if_took production.initialiser (c.units_are_exact.ensures 500).initialiser c.args.p.now c.initialiser_at.new.p initialiser_seen c.initialiser_at.result (sym c.fault.ensures ∙ c.in_default.is) c.initialiser_at.ensures.ok c.initialiser_at.ensures.going

pub returns-clause-err : goal.returns-clause-err
returns-clause-err c = if_stopped production.initialiser (c.units_are_exact.ensures 500).initialiser c.args.p.now c.initialiser_at.new.p c.initialiser_at.result (sym c.fault.ensures ∙ c.in_default.is) c.initialiser_at.ensures.none c.initialiser_at.ensures.broken
