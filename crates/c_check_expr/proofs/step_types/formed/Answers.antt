use Rattle.std.proofs.Common.{◌≡◌, ◌+◌, false, drop, length, sym, ap, subst, ◌∙◌}
use Rattle.c_types.specs.CType.{CType}
use Rattle.c_types.specs.Table.{tags, type_at}
use Rattle.c_meaning.specs.Nodes as node
use Rattle.c_meaning.specs.TypeConstraints.{is_bad_element, some_step}
use Rattle.c_meaning.specs.TypeRows.{formed, formed_by}
use Rattle.c_values.specs.declared.check_fault.CheckFault.{CheckFault}
use Rattle.c_check_expr.specs.PartsSeen.{step_seen, steps_seen}
use Rattle.c_check_expr.specs.StepFaults.{IsPassedDepth, is_deep_step, is_large_step}
use Rattle.c_check_expr.proofs.Handed.{handed_on}
use Rattle.c_values.specs.Stays.{grows_on}
use Rattle.c_check_expr.proofs.StepTests.{all_deep, formed_next, next_fails, not_met, others_fail, passed_on, step_in, step_in_later, step_stays, steps_in, test_stays}
use Rattle.c_check_expr.proofs.step_types.formed.Goals as goal

pub formed_by-requires-clause-step : goal.formed_by-requires-clause-step
formed_by-requires-clause-step c =
    let v = c.loop-step.invariant in
    let o = c.args.types.now in
    step_in_later o c.loop-step.types v.grows.extends c.step-item.result (step_in (length o.forms) c.args.steps.now c.loop-step.step-index c.step-item.result c.loop-step-test.true c.step-item.is v.rest)

pub formed_by-requires-clause-size : goal.formed_by-requires-clause-size
formed_by-requires-clause-size c =
    let v = c.loop-step.invariant in
    let o = c.args.types.now in
    let n = c.loop-step.types in
    let p = c.step-item.result in
    let u = type_at n c.loop-step.of in
    let ps = c.args.steps.now in
    let i = c.loop-step.step-index in
    test_stays is_large_step o n v.grows u p (step_in (length o.forms) ps i p c.loop-step-test.true c.step-item.is v.rest)
    ∙ next_fails (is_large_step (tags o)) o ps i u p c.loop-step-test.true c.step-item.is v.sizes

pub returns-in_err-of-clause-deep : goal.returns-in_err-of-clause-deep
returns-in_err-of-clause-deep c =
    let v = c.loop-step.invariant in
    let o = c.args.types.now in
    let n = c.loop-step.types in
    let whole = some_step (is_deep_step (tags o)) (type_at o c.args.base) (steps_seen o c.args.steps.now) in
    handed_on c.from_residual.result c.in_err-of.field-0.0 (λ (e : CheckFault). IsPassedDepth e c.args.line whole) c.from_residual.ensures.1
    (all_deep o n whole c.args.steps.now c.loop-step.step-index (type_at n c.loop-step.of) c.step-item.result c.in_err-of.field-0.0 c.args.line v.grows v.rest c.loop-step-test.true c.step-item.is v.deep c.in_err-of.ensures.deep)

pub loop-step-preserved : goal.loop-step-preserved
loop-step-preserved c =
    let v = c.loop-step.invariant in
    let o = c.args.types.now in
    let n = c.loop-step.types in
    let m = c.formed_by.new.types in
    let p = c.step-item.result in
    let u = type_at n c.loop-step.of in
    let ps = c.args.steps.now in
    let i = c.loop-step.step-index in
    let w = c.loop-step-test.true in
    let g = c.step-item.is in
    let x = c.in_ok-of.ensures in
    let r = step_in (length o.forms) ps i p w g v.rest in
    let next = formed_by (step_seen o p) u in
    let rest = steps_seen o (drop (i + 1) ps) in
    let e : next ≡ type_at m c.in_ok-of.of = sym (x.means ∙ ap (λ (q : node.Step). formed_by q u) (step_stays o n v.grows.extends p r)) in
    record {
      within = x.within;
      grows = grows_on o n m v.grows x.grows;
      rest = steps_in (length o.forms) ps i p w g v.rest;
      elements = subst (λ (z : CType). some_step (is_bad_element (tags o)) z rest ≡ false) e (others_fail (is_bad_element (tags o)) o ps i u p w g v.elements);
      sizes = subst (λ (z : CType). some_step (is_large_step (tags o)) z rest ≡ false) e (others_fail (is_large_step (tags o)) o ps i u p w g v.sizes);
      deep =
          passed_on (is_deep_step (tags o)) o _ ps i u v.deep p w g (sym (test_stays is_deep_step o n v.grows u p r) ∙ x.shallow)
          ∙ ap (λ (z : CType). some_step (is_deep_step (tags o)) z rest) e;
      means = v.means ∙ formed_next o ps i u p w g ∙ ap (λ (z : CType). formed z rest) e;
    }

pub returns-clause-shallow : goal.returns-clause-shallow
returns-clause-shallow c =
    let v = c.loop-step.invariant in
    let o = c.args.types.now in
    sym (not_met (is_deep_step (tags o)) o _ c.args.steps.now c.loop-step.step-index (type_at c.loop-step.types c.loop-step.of) v.deep c.loop-step-test.false)
