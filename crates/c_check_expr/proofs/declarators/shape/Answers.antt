use Rattle.std.proofs.Common.{◌≡◌, List, sym, ap, subst, ◌∙◌}
use Rattle.std.specs.Prelude.{None}
use Rattle.c_types.specs.CType.{CType}
use Rattle.c_types.specs.Table.{tags, type_at}
use Rattle.c_meaning.specs.Nodes as node
use Rattle.c_meaning.specs.State.{State}
use Rattle.c_meaning.specs.TypeRows.{formed}
use Rattle.c_meaning.specs.Typing.{Fine, at, shaped}
use Rattle.c_values.specs.declared.check_fault.CheckFault.{CheckFault}
use Rattle.c_check_expr.specs.AtNode.{Tells}
use Rattle.c_check_expr.specs.PartsSeen.{steps_seen}
use Rattle.c_check_expr.specs.StepFaults.{IsFault, steps_fault}
use Rattle.c_check_expr.proofs.DeclaratorNodes.{declared_in, fine_at, told_at}
use Rattle.c_check_expr.proofs.Handed.{handed_on}
use Rattle.c_check_expr.proofs.declarators.shape.Goals as goal

pub returns-in_err-of-clause-err : goal.returns-in_err-of-clause-err
returns-in_err-of-clause-err c =
    let t = c.args.types.now in
    let d = c.args.d in
    let base = type_at t c.args.base in
    let ps = steps_seen t d.steps in
    let fault = c.in_err-of.field-0.0 in
    let f : IsFault fault (steps_fault (tags t) d.line base ps) = subst (λ (qs : List node.Step). IsFault fault (steps_fault (tags t) d.line base qs)) (ap (steps_seen t) c.as_slice.ensures) c.in_err-of.ensures.err in
    handed_on c.from_residual.result fault (λ (e : CheckFault). (s : State) → s.tags ≡ tags t → Tells e (at s d.line (node.Typing (node.Declarator base ps)) s (shaped d.name (formed base ps)))) c.from_residual.ensures.1
    (λ s h. told_at s d.line (node.Typing (node.Declarator base ps)) s (shaped d.name (formed base ps)) (steps_fault (tags t) d.line base ps) fault (declared_in s (tags t) d.line base ps h) f)

pub returns-clause-ok : goal.returns-clause-ok
returns-clause-ok c = λ s h.
    let t = c.args.types.now in
    let d = c.args.d in
    let base = type_at t c.args.base in
    let ps = steps_seen t d.steps in
    let e = ap (steps_seen t) c.as_slice.ensures in
    let f : steps_fault (tags t) d.line base ps ≡ None = subst (λ (qs : List node.Step). steps_fault (tags t) d.line base qs ≡ None) e c.in_ok-of.ensures.ok in
    fine_at s d.line (node.Typing (node.Declarator base ps)) s (shaped d.name (formed base ps)) (declared_in s (tags t) d.line base ps h ∙ f)
    ∙ ap (λ (z : CType). Fine s (shaped d.name z)) (sym (c.in_ok-of.ensures.means ∙ ap (formed base) e))
