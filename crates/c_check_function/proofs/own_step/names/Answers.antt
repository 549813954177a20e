use Rattle.std.proofs.Common.{ap, sym, ◌∙◌}
use Rattle.c_units.specs.Definitions.{names_of}
use Rattle.c_check_function.proofs.OwnSteps.{own_seen}
use Rattle.c_check_function.proofs.own_step.names.Goals as goal

pub returns-in-Some : goal.returns-in-Some
returns-in-Some c = λ t. c.listed.ensures t ∙ sym (ap names_of (own_seen t c.args.steps.now c.in-Some.field-0-1.now c.in-Some.own.now c.in-Some.ensures.cases.0))
