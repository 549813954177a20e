use Rattle.std.proofs.Common.{true, refl, sym, ap, ◌∙◌, subst}
use Rattle.c_types.specs.CType.{CType}
use Rattle.c_types.specs.Table.{tags, type_at}
use Rattle.c_symbols.specs.Scoping.{symbol_named}
use Rattle.c_meaning.specs.Constraints.{passed_fault}
use Rattle.c_meaning.specs.Declarations.{noted}
use Rattle.c_meaning.specs.TypeConstraints.{is_bad_element, some_step}
use Rattle.c_meaning.specs.TypeRows.{formed}
use Rattle.c_units.specs.Definitions.{has_many_names, own_step}
use Rattle.c_check_expr.specs.Known.{state_of}
use Rattle.c_check_expr.specs.Kept.{keeps_grown, keeps_on}
use Rattle.c_check_expr.specs.PartsSeen.{declared_seen, specified_seen, steps_seen}
use Rattle.c_check_expr.specs.StepFaults.{IsFault, steps_passed}
use Rattle.c_check_expr.specs.SymbolsStay.{symbols_in_later}
use Rattle.c_check_expr.proofs.lemmas.Walking.{memory_stops}
use Rattle.c_check_decl.specs.Named.{linked}
use Rattle.c_check_function.specs.FunctionsSeen.{IsDefinitionIn, defined_at, definition_seen}
use Rattle.c_check_function.specs.Headings.{heading_seen}
use Rattle.c_check_function.proofs.DefinitionFaults.{elements_fit}
use Rattle.c_check_function.proofs.DefinitionWalks.{walk_broken, walk_fine, walk_limited, walk_many}
use Rattle.c_check_function.proofs.definition.define_checked.Goals as goal

pub returns-in-Some : goal.returns-in-Some
returns-in-Some c =
    let s = c.args.scopes.now in
    let a = c.args.types.now in
    walk_broken s a c.args.line (specified_seen a c.args.base.now) (declared_seen a c.args.d) (heading_seen a c.heading-h.result) c.heading-h.ensures.is c.requires.symbols c.in-Some.number (sym c.in_ok-number.ensures ∙ c.in-Some.is)

pub limited-requires-clause-elements : goal.limited-requires-clause-elements
limited-requires-clause-elements c =
    let a = c.args.types.now in
    ap (λ ps. some_step (is_bad_element (tags a)) (type_at a c.heading-h.result.base) (steps_seen a ps)) c.as_slice.ensures
    ∙ elements_fit c.args.scopes.now a c.heading-h.result (sym c.in_ok-number.ensures ∙ c.in_default.is)

pub returns-in_err-of : goal.returns-in_err-of
returns-in_err-of c =
    let s = c.args.scopes.now in
    let a = c.args.types.now in
    let h = c.heading-h.result in
    walk_limited s a c.args.line (specified_seen a c.args.base.now) (declared_seen a c.args.d) (heading_seen a h) c.heading-h.ensures.is c.requires.symbols (sym c.in_ok-number.ensures ∙ c.in_default.is)
    c.limited.new.types c.in_err-of.field-0.0 c.from_residual-in_err-of.result c.from_residual-in_err-of.ensures.1 c.in_err-of.ensures.grows
    (subst (λ ps. IsFault c.in_err-of.field-0.0 (passed_fault c.args.d.line (steps_passed (tags a) (type_at a h.base) (steps_seen a ps)))) c.as_slice.ensures c.in_err-of.ensures.err)

pub returns-then-has_many_names : goal.returns-then-has_many_names
returns-then-has_many_names c =
    let s = c.args.scopes.now in
    let a = c.args.types.now in
    let h = c.heading-h.result in
    walk_many s a c.args.line (specified_seen a c.args.base.now) (declared_seen a c.args.d) (heading_seen a h) c.heading-h.ensures.is c.requires.symbols (sym c.in_ok-number.ensures ∙ c.in_default.is)
    c.limited.new.types c.in_ok-of.ensures.grows (sym (ap (λ ps. steps_passed (tags a) (type_at a h.base) (steps_seen a ps)) c.as_slice.ensures) ∙ c.in_ok-of.ensures.ok)
    (sym (c.if-has_many_names.ensures a ∙ ap (λ ps. has_many_names (own_step (steps_seen a ps))) c.as_slice-2.ensures))

pub declare_name-requires-clause-symbols : goal.declare_name-requires-clause-symbols
declare_name-requires-clause-symbols c = symbols_in_later c.args.types.now c.limited.new.types c.in_ok-of.ensures.grows.extends c.args.scopes.now.symbols c.requires.symbols

pub returns-in_err-declare_name : goal.returns-in_err-declare_name
returns-in_err-declare_name c =
    let s = c.args.scopes.now in
    let a = c.args.types.now in
    let m = c.limited.new.types in
    memory_stops definition_seen IsDefinitionIn (defined_at (state_of s a) c.args.line (specified_seen a c.args.base.now) (declared_seen a c.args.d)) s c.declare_name.new.scopes a c.declare_name.new.types c.from_residual-in_err-declare_name.result c.from_residual-in_err-declare_name.ensures.1
    (keeps_on s s c.declare_name.new.scopes a m c.declare_name.new.types (keeps_grown s a m c.requires.symbols c.in_ok-of.ensures.grows) c.in_err-declare_name.ensures.keeps)

pub returns-in_err-note : goal.returns-in_err-note
returns-in_err-note c =
    let s = c.args.scopes.now in
    let u = c.declare_name.new.scopes in
    let a = c.args.types.now in
    let m = c.limited.new.types in
    let d = c.declare_name.new.types in
    memory_stops definition_seen IsDefinitionIn (defined_at (state_of s a) c.args.line (specified_seen a c.args.base.now) (declared_seen a c.args.d)) s c.note.new.scopes a d c.from_residual-in_err-note.result c.from_residual-in_err-note.ensures.1
    (keeps_on s u c.note.new.scopes a d d (keeps_on s s u a m d (keeps_grown s a m c.requires.symbols c.in_ok-of.ensures.grows) c.in_ok-declare_name.ensures.keeps) c.in_err-note.ensures.keeps)

pub returns : goal.returns
returns c =
    let s = c.args.scopes.now in
    let u = c.declare_name.new.scopes in
    let a = c.args.types.now in
    let h = c.heading-h.result in
    walk_fine s a c.args.line (specified_seen a c.args.base.now) (declared_seen a c.args.d) (heading_seen a h) c.heading-h.ensures.is c.requires.symbols (sym c.in_ok-number.ensures ∙ c.in_default.is)
    c.limited.new.types c.in_ok-of.ensures.grows (sym (ap (λ ps. steps_passed (tags a) (type_at a h.base) (steps_seen a ps)) c.as_slice.ensures) ∙ c.in_ok-of.ensures.ok)
    (sym (c.if-has_many_names.ensures a ∙ ap (λ ps. has_many_names (own_step (steps_seen a ps))) c.as_slice-2.ensures))
    _ (ap (λ (t : CType). record { class = h.class; name = h.name; of = t; linkage = linked h.linkage }) (c.in_ok-of.ensures.means ∙ ap (λ ps. formed (type_at a h.base) (steps_seen a ps)) c.as_slice.ensures)) refl refl
    c.in_ok-of.ensures.within c.heading-h.ensures.within.base c.heading-h.ensures.within.steps
    u c.note.new.scopes c.declare_name.new.types c.in_ok-declare_name.ensures.state
    (c.in_ok-note.ensures.state ∙ ap (noted (state_of u c.declare_name.new.types) true) (c.linked-link.ensures.means ∙ ap (symbol_named u.links) c.as_slice-3.ensures))
    c.in_ok-declare_name.ensures.keeps c.in_ok-note.ensures.keeps
