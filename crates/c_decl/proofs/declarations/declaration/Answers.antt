use Rattle.std.proofs.Common.{refl, sym, ◌∙◌}
use Rattle.c_ast.specs.SeenUnits.{declaration_seen}
use Rattle.c_decl.specs.Productions as production
use Rattle.c_expr.specs.State.{Again}
use Rattle.c_decl.proofs.lemmas.TakingLaws.{if_took, if_stopped}
use Rattle.c_decl.proofs.declarations.declaration.Goals as goal

pub returns-in-Some-clause-err : goal.returns-in-Some-clause-err
returns-in-Some-clause-err c = Again c.in-Some.fault (sym c.fault.ensures ∙ c.in-Some.is) refl

pub returns-clause-ok : goal.returns-clause-ok
returns-clause-ok c = if_took production.declaration (c.units_are_exact.ensures 500).declaration c.args.p.now c.declaration_to.new.p declaration_seen c.declaration_to.result (sym c.fault.ensures ∙ c.in_default.is) c.declaration_to.ensures.ok c.declaration_to.ensures.going

pub returns-clause-err : goal.returns-clause-err
returns-clause-err c = if_stopped production.declaration (c.units_are_exact.ensures 500).declaration c.args.p.now c.declaration_to.new.p c.declaration_to.result (sym c.fault.ensures ∙ c.in_default.is) c.declaration_to.ensures.none c.declaration_to.ensures.broken
