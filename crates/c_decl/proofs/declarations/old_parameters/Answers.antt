use Rattle.std.proofs.Common.{map, refl, sym, ◌∙◌}
use Rattle.c_ast.specs.SeenUnits.{declaration_seen}
use Rattle.c_decl.specs.Productions as production
use Rattle.c_expr.specs.State.{Again}
use Rattle.c_decl.proofs.lemmas.TakingLaws.{if_took, if_stopped}
use Rattle.c_decl.proofs.OldParameters.{old_parameters_exact}
use Rattle.c_decl.proofs.declarations.old_parameters.Goals as goal

pub returns-in-Some-clause-err : goal.returns-in-Some-clause-err
returns-in-Some-clause-err c = Again c.in-Some.fault (sym c.fault.ensures ∙ c.in-Some.is) refl

pub returns-clause-ok : goal.returns-clause-ok
returns-clause-ok c = if_took production.old_parameters (old_parameters_exact (c.units_are_exact.ensures 500).declarations) c.args.p.now c.old_parameters_to.new.p (map declaration_seen) c.old_parameters_to.result (sym c.fault.ensures ∙ c.in_default.is) c.old_parameters_to.ensures.ok c.old_parameters_to.ensures.going

pub returns-clause-err : goal.returns-clause-err
returns-clause-err c = if_stopped production.old_parameters (old_parameters_exact (c.units_are_exact.ensures 500).declarations) c.args.p.now c.old_parameters_to.new.p c.old_parameters_to.result (sym c.fault.ensures ∙ c.in_default.is) c.old_parameters_to.ensures.none c.old_parameters_to.ensures.broken
