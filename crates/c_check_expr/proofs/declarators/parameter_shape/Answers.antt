use Rattle.std.proofs.Common.{◌≡◌, List, sym, ap, subst, ◌∙◌}
use Rattle.std.specs.Prelude.{None}
use Rattle.c_types.specs.CType.{CType}
use Rattle.c_types.specs.Table.{tags, type_at}
use Rattle.c_meaning.specs.Nodes as node
use Rattle.c_meaning.specs.State.{State}
use Rattle.c_meaning.specs.TypeRows.{formed}
use Rattle.c_meaning.specs.Typing.{Fine, at, shaped, unless}
use Rattle.c_values.specs.declared.check_fault.CheckFault.{CheckFault}
use Rattle.c_check_expr.specs.AtNode.{Tells}
use Rattle.c_check_expr.specs.Known.{state_of}
use Rattle.c_check_expr.specs.PartsSeen.{steps_seen}
use Rattle.c_check_expr.specs.StepFaults.{IsFault, steps_fault}
use Rattle.c_check_expr.proofs.DeclaratorNodes.{fine_at, free_fault, taken_fault, told_at}
use Rattle.c_check_expr.proofs.Handed.{handed_on}
use Rattle.c_check_expr.specs.SymbolsStay.{state_stays}
use Rattle.c_check_expr.proofs.declarators.parameter_shape.Goals as goal

pub returns-then-is_taken-clause-err : goal.returns-then-is_taken-clause-err
returns-then-is_taken-clause-err c =
    let t = c.args.types.now in
    let d = c.args.d in
    let s = state_of c.args.scopes.now t in
    let base = type_at t c.args.base in
    let ps = steps_seen t d.steps in
    ap (λ f. unless f s (shaped d.name (formed base ps))) (taken_fault s d.line d.name base ps (sym (c.is_taken.ensures t) ∙ c.if-is_taken.true))

pub returns-in_err-of-clause-err : goal.returns-in_err-of-clause-err
returns-in_err-of-clause-err c =
    let t = c.args.types.now in
    let d = c.args.d in
    let s = state_of c.args.scopes.now t in
    let base = type_at t c.args.base in
    let ps = steps_seen t d.steps in
    let n = node.Typing (node.ParameterDeclarator d.name base ps) in
    let x = shaped d.name (formed base ps) in
    let fault = c.in_err-of.field-0.0 in
    let f : IsFault fault (steps_fault (tags t) d.line base ps) = subst (λ (qs : List node.Step). IsFault fault (steps_fault (tags t) d.line base qs)) (ap (steps_seen t) c.as_slice.ensures) c.in_err-of.ensures.err in
    handed_on c.from_residual.result fault (λ (e : CheckFault). Tells e (at s d.line n s x)) c.from_residual.ensures.1
    (told_at s d.line n s x (steps_fault (tags t) d.line base ps) fault (free_fault s d.line d.name base ps (sym (c.is_taken.ensures t) ∙ c.if-is_taken.false)) f)

pub returns-clause-ok : goal.returns-clause-ok
returns-clause-ok c =
    let t = c.args.types.now in
    let m = c.checked.new.types in
    let d = c.args.d in
    let s = state_of c.args.scopes.now t in
    let base = type_at t c.args.base in
    let ps = steps_seen t d.steps in
    let e = ap (steps_seen t) c.as_slice.ensures in
    let f : steps_fault (tags t) d.line base ps ≡ None = subst (λ (qs : List node.Step). steps_fault (tags t) d.line base qs ≡ None) e c.in_ok-of.ensures.ok in
    fine_at s d.line (node.Typing (node.ParameterDeclarator d.name base ps)) s (shaped d.name (formed base ps)) (free_fault s d.line d.name base ps (sym (c.is_taken.ensures t) ∙ c.if-is_taken.false) ∙ f)
    ∙ ap (λ (z : State). Fine z (shaped d.name (formed base ps))) (sym (state_stays c.args.scopes.now t m c.in_ok-of.ensures.grows c.requires.symbols))
    ∙ ap (λ (z : CType). Fine (state_of c.args.scopes.now m) (shaped d.name z)) (sym (c.in_ok-of.ensures.means ∙ ap (formed base) e))
