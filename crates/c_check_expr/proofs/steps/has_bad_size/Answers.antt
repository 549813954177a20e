use Rattle.std.proofs.Common.{length, refl, sym, ◌∙◌}
use Rattle.c_meaning.specs.TypeConstraints.{is_bad_size}
use Rattle.c_meaning.specs.TypeRows.{formed_by}
use Rattle.c_check_expr.specs.PartsSeen.{step_seen}
use Rattle.c_check_expr.proofs.StepTests.{met, not_met, passed_on, steps_in}
use Rattle.c_check_expr.proofs.steps.has_bad_size.Goals as goal

pub loop-step-init : goal.loop-step-init
loop-step-init c = record { rest = c.requires; same = λ t. (t, refl) }

pub returns-then-is_bad_size : goal.returns-then-is_bad_size
returns-then-is_bad_size c = λ t. let h = c.loop-step.invariant.same t in met is_bad_size c.args.types.now _ c.args.steps.now c.loop-step.step-index h.0 h.1 c.step-item.result c.loop-step-test.true c.step-item.is (sym (c.is_bad_size.ensures h.0) ∙ c.if-is_bad_size.true)

pub loop-step-preserved : goal.loop-step-preserved
loop-step-preserved c = record {
  rest = steps_in (length c.args.types.now.forms) c.args.steps.now c.loop-step.step-index c.step-item.result c.loop-step-test.true c.step-item.is c.loop-step.invariant.rest;
  same = λ t. let h = c.loop-step.invariant.same t in (formed_by (step_seen c.args.types.now c.step-item.result) h.0, passed_on is_bad_size c.args.types.now _ c.args.steps.now c.loop-step.step-index h.0 h.1 c.step-item.result c.loop-step-test.true c.step-item.is (sym (c.is_bad_size.ensures h.0) ∙ c.if-is_bad_size.false));
}

pub returns : goal.returns
returns c = λ t. let h = c.loop-step.invariant.same t in not_met is_bad_size c.args.types.now _ c.args.steps.now c.loop-step.step-index h.0 h.1 c.loop-step-test.false
