use Rattle.std.proofs.Common.{Some, sym, ap, subst, ◌∙◌}
use Rattle.c_types.specs.Table.{tags, type_at}
use Rattle.c_meaning.specs.Constraints.{passed_fault}
use Rattle.c_meaning.specs.TypeRows.{adjusted, formed, with_parameter}
use Rattle.c_check_expr.specs.PartsSeen.{steps_seen}
use Rattle.c_check_expr.specs.StepFaults.{IsFault}
use Rattle.c_check_expr.specs.Known.{state_of}
use Rattle.c_check_expr.specs.SymbolsStay.{symbols_in_later}
use Rattle.c_check_function.specs.OldParameters.{old_passed, old_seen}
use Rattle.c_check_function.proofs.OldSteps.{place_is}
use Rattle.c_check_function.proofs.OldWalks.{old_breaks, old_fine, old_passes}
use Rattle.c_check_function.proofs.old_parameters.declared.Goals as goal

pub returns-in-Some : goal.returns-in-Some
returns-in-Some c = old_breaks c.args.scopes.now c.args.types.now c.args.lines.0 c.args.lines.1 (old_seen c.args.types.now c.args.classes.now c.args.p) c.requires.symbols c.in-Some.number (sym c.in-Some.ensures)

pub returns-in_err-of : goal.returns-in_err-of
returns-in_err-of c =
    let s = c.args.scopes.now in
    let a = c.args.types.now in
    let n = old_seen a c.args.classes.now c.args.p in
    old_passes s a c.args.lines.0 c.args.lines.1 n c.requires.symbols (sym c.in_default.ensures) c.own_type.new.types c.in_err-of.ensures.grows c.in_err-of.field-0.0 c.from_residual.result c.from_residual.ensures.1
    (subst (λ ps. IsFault c.in_err-of.field-0.0 (passed_fault c.args.lines.1 (old_passed (tags a) (type_at a c.args.p.base) (steps_seen a ps)))) c.as_slice.ensures c.in_err-of.ensures.err)

pub declare_parameter-requires-clause-symbols : goal.declare_parameter-requires-clause-symbols
declare_parameter-requires-clause-symbols c = symbols_in_later c.args.types.now c.own_type.new.types c.in_ok-of.ensures.grows.extends c.args.scopes.now.symbols c.requires.symbols

pub returns : goal.returns
returns c =
    let s = c.args.scopes.now in
    let a = c.args.types.now in
    let b = type_at a c.args.p.base in
    let n = old_seen a c.args.classes.now c.args.p in
    old_fine s a c.args.lines.0 c.args.lines.1 n c.requires.symbols (sym c.in_default.ensures) c.own_type.new.types c.in_ok-of.ensures.grows c.declare_parameter.new.scopes c.unwrap_or.result (type_at c.own_type.new.types c.in_ok-of.of)
    (sym (ap (λ ps. old_passed (tags a) b (steps_seen a ps)) c.as_slice.ensures) ∙ c.in_ok-of.ensures.ok)
    (c.in_ok-of.ensures.means ∙ ap (λ ps. adjusted (formed b (steps_seen a ps))) c.as_slice.ensures)
    c.in_ok-declare_parameter.ensures.state
    (ap (λ k. with_parameter (state_of s a) c.args.lines.0 k c.args.classes.now (Some c.args.p.name) (adjusted (formed n.base n.steps))) (c.unwrap_or.ensures ∙ place_is c.args.p.place))
    c.in_ok-declare_parameter.ensures.keeps
