use Rattle.std.proofs.Common.{refl, sym, ◌∙◌}
use Rattle.c_meaning.specs.TypeConstraints.{is_name_list}
use Rattle.c_meaning.specs.TypeRows.{formed_by}
use Rattle.c_check_expr.specs.PartsSeen.{step_seen}
use Rattle.c_check_expr.proofs.StepTests.{met, not_met, passed_on}
use Rattle.c_check_expr.proofs.steps.has_name_list.Goals as goal

pub loop-step-init : goal.loop-step-init
loop-step-init c = λ k t. (t, refl)

pub returns-then-is_name_list : goal.returns-then-is_name_list
returns-then-is_name_list c = λ k t. let h = c.loop-step.invariant k t in met is_name_list k _ c.args.steps.now c.loop-step.step-index h.0 h.1 c.step-item.result c.loop-step-test.true c.step-item.is (sym (c.is_name_list.ensures k h.0) ∙ c.if-is_name_list.true)

pub loop-step-preserved : goal.loop-step-preserved
loop-step-preserved c = λ k t. let h = c.loop-step.invariant k t in (formed_by (step_seen k c.step-item.result) h.0, passed_on is_name_list k _ c.args.steps.now c.loop-step.step-index h.0 h.1 c.step-item.result c.loop-step-test.true c.step-item.is (sym (c.is_name_list.ensures k h.0) ∙ c.if-is_name_list.false))

pub returns : goal.returns
returns c = λ k t. let h = c.loop-step.invariant k t in not_met is_name_list k _ c.args.steps.now c.loop-step.step-index h.0 h.1 c.loop-step-test.false
