use Rattle.std.proofs.Common.{◌≡◌, false, length, map, IfOk, IfErr, OnOk, sym, ap, subst, ◌∙◌}
use Rattle.c_types.specs.CType.{CType}
use Rattle.c_types.specs.Table.{AreBelow, tags, type_at}
use Rattle.c_check_expr.specs.declared.parts.NamedParameter.{NamedParameter}
use Rattle.c_check_expr.specs.PartsSeen.{IsStepIn}
use Rattle.c_check_expr.specs.StepFaults.{IsPassedDepth, is_deep}
use Rattle.c_check_expr.proofs.StepTypes.{function_formed, ids_below}
use Rattle.c_check_expr.proofs.step_types.formed_by.Goals as goal

pub added-requires-clause-over : goal.added-requires-clause-over
added-requires-clause-over c =
    let n = length c.args.types.now.forms in
    let e = c.in_ok-ids-in-Function.ensures ∙ ap (map (λ (p : NamedParameter). p.of)) c.as_slice.ensures in
    (c.requires.of, subst (AreBelow n) (sym e) (ids_below n c.in-Function.parameters (subst (IsStepIn n) c.in-Function.is c.requires.step)))

pub returns-in_ok-ids-in-Function-clause-means : goal.returns-in_ok-ids-in-Function-clause-means
returns-in_ok-ids-in-Function-clause-means c =
    let e = c.in_ok-ids-in-Function.ensures ∙ ap (map (λ (p : NamedParameter). p.of)) c.as_slice.ensures in
    let q = function_formed c.args.types.now c.args.of c.args.step.now c.in-Function.parameters c.in_ok-ids-in-Function.ids c.in-Function.more c.in-Function.scope c.in-Function.is e in
    subst (λ (z : CType). IfOk c.added.result (λ id. type_at c.added.new.types id ≡ z)) q c.added.ensures.means

pub returns-in_ok-ids-in-Function-clause-shallow : goal.returns-in_ok-ids-in-Function-clause-shallow
returns-in_ok-ids-in-Function-clause-shallow c =
    let e = c.in_ok-ids-in-Function.ensures ∙ ap (map (λ (p : NamedParameter). p.of)) c.as_slice.ensures in
    let q = function_formed c.args.types.now c.args.of c.args.step.now c.in-Function.parameters c.in_ok-ids-in-Function.ids c.in-Function.more c.in-Function.scope c.in-Function.is e in
    subst (λ (z : CType). OnOk c.added.result (is_deep (tags c.args.types.now) z ≡ false)) q c.added.ensures.shallow

pub returns-in_ok-ids-in-Function-clause-deep : goal.returns-in_ok-ids-in-Function-clause-deep
returns-in_ok-ids-in-Function-clause-deep c =
    let e = c.in_ok-ids-in-Function.ensures ∙ ap (map (λ (p : NamedParameter). p.of)) c.as_slice.ensures in
    let q = function_formed c.args.types.now c.args.of c.args.step.now c.in-Function.parameters c.in_ok-ids-in-Function.ids c.in-Function.more c.in-Function.scope c.in-Function.is e in
    subst (λ (z : CType). IfErr c.added.result (λ e. IsPassedDepth e c.args.line (is_deep (tags c.args.types.now) z))) q c.added.ensures.deep
