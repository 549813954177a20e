use Rattle.std.proofs.Common.{nat_lt, sym, ap, ◌∙◌}
use Rattle.c_meaning.specs.Constraints.{has_many}
use Rattle.c_check_expr.specs.declared.parts.Step.{Step}
use Rattle.c_check_expr.specs.PartsSeen.{step_seen}
use Rattle.c_check_expr.proofs.StepTests.{length-parameters_seen}
use Rattle.c_check_expr.proofs.steps.has_many.Goals as goal

pub returns-in-Function : goal.returns-in-Function
returns-in-Function c = λ k. ap (nat_lt 127) (c.len.ensures ∙ sym (length-parameters_seen k c.in-Function.parameters)) ∙ sym (ap (λ (p : Step). has_many (step_seen k p)) c.in-Function.is)
