use Rattle.std.proofs.Common.{refl, sym, ◌∙◌}
use Rattle.c_meaning.specs.TypeRows.{formed_by}
use Rattle.c_check_expr.specs.PartsSeen.{step_seen}
use Rattle.c_check_expr.specs.StepFaults.{is_many_step}
use Rattle.c_check_expr.proofs.StepTests.{met, not_met, passed_on}
use Rattle.c_check_expr.proofs.steps.has_many_parameters.Goals as goal

pub loop-step-init : goal.loop-step-init
loop-step-init c = λ k t. (t, refl)

pub returns-then-has_many : goal.returns-then-has_many
returns-then-has_many c = λ k t. let h = c.loop-step.invariant k t in met is_many_step k _ c.args.steps.now c.loop-step.step-index h.0 h.1 c.step-item.result c.loop-step-test.true c.step-item.is (sym (c.has_many.ensures k) ∙ c.if-has_many.true)

pub loop-step-preserved : goal.loop-step-preserved
loop-step-preserved c = λ k t. let h = c.loop-step.invariant k t in (formed_by (step_seen k c.step-item.result) h.0, passed_on is_many_step k _ c.args.steps.now c.loop-step.step-index h.0 h.1 c.step-item.result c.loop-step-test.true c.step-item.is (sym (c.has_many.ensures k) ∙ c.if-has_many.false))

pub returns : goal.returns
returns c = λ k t. let h = c.loop-step.invariant k t in not_met is_many_step k _ c.args.steps.now c.loop-step.step-index h.0 h.1 c.loop-step-test.false
