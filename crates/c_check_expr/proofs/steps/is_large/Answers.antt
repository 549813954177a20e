use Rattle.std.proofs.Common.{length, sym, ◌∙◌}
use Rattle.c_types.specs.Table.{tags}
use Rattle.c_meaning.specs.TypeRows.{formed_by}
use Rattle.c_check_expr.specs.PartsSeen.{step_seen}
use Rattle.c_check_expr.specs.StepFaults.{is_large_step}
use Rattle.c_check_expr.proofs.StepTests.{passed_on, steps_in}
use Rattle.c_check_expr.proofs.steps.is_large.Goals as goal

pub loop-step-preserved : goal.loop-step-preserved
loop-step-preserved c =
    let t = c.args.types.now in
    let ps = c.args.steps.now in
    let i = c.loop-step.step-index in
    let p = c.step-item.result in
    let h = c.loop-step.invariant.same in
    let next = formed_by (step_seen t p) h.0 in
    let o = c.after-before.ensures h.0 h.1 in
    record {
      rest = steps_in (length t.forms) ps i p c.loop-step-test.true c.step-item.is c.loop-step.invariant.rest;
      same = (next, o, passed_on (is_large_step (tags t)) t _ ps i h.0 h.2 p c.loop-step-test.true c.step-item.is (sym (c.is_large.ensures (tags t) next o) ∙ c.if-is_large.false));
    }
