use Rattle.std.proofs.Common.{refl, sym, ap, ◌∙◌}
use Rattle.c_types.specs.Table.{type_at}
use Rattle.c_meaning.specs.Declaring.{first_class}
use Rattle.c_meaning.specs.TypeRows.{formed, name_or_empty}
use Rattle.c_check_expr.specs.Known.{state_of}
use Rattle.c_check_expr.specs.Kept.{keeps_grown, keeps_on}
use Rattle.c_check_expr.specs.PartsSeen.{declared_seen, shaped_seen, specified_seen, steps_seen}
use Rattle.c_check_expr.specs.SymbolsStay.{symbols_in_later}
use Rattle.c_check_expr.proofs.lemmas.Walking.{memory_stops}
use Rattle.c_check_decl.specs.DeclaredIn.{named_at}
use Rattle.c_check_decl.specs.Named.{IsNamingIn, linked, naming_in}
use Rattle.c_check_decl.proofs.NameWalks.{named_same, naming_as, shape_name, shape_type, walk_broken, walk_fine, walk_told}
use Rattle.c_check_decl.proofs.forming.named.Goals as goal

pub returns-in-Some : goal.returns-in-Some
returns-in-Some c =
    let s = c.args.scopes.now in
    let a = c.args.types.now in
    let b = specified_seen a c.args.base.now in
    let p = declared_seen a c.args.d in
    let same = named_same (state_of s a) b p c.first_class-class.result c.name_bytes-name.result.now _ c.makes_function.result (linked c.given_linkage-linkage.result) (c.first_class-class.ensures ∙ ap first_class c.as_slice.ensures) c.name_bytes-name.ensures (ap (λ ss. formed b.of (steps_seen a ss)) c.as_slice-steps.ensures) c.makes_function.ensures (c.given_linkage-linkage.ensures a) in
    walk_broken s a c.args.line b p _ same c.requires.symbols c.in-Some.number (sym c.in-Some.ensures)

pub returns-in_err-shaped : goal.returns-in_err-shaped
returns-in_err-shaped c =
    let s = c.args.scopes.now in
    let a = c.args.types.now in
    let b = specified_seen a c.args.base.now in
    let p = declared_seen a c.args.d in
    let same = named_same (state_of s a) b p c.first_class-class.result c.name_bytes-name.result.now _ c.makes_function.result (linked c.given_linkage-linkage.result) (c.first_class-class.ensures ∙ ap first_class c.as_slice.ensures) c.name_bytes-name.ensures (ap (λ ss. formed b.of (steps_seen a ss)) c.as_slice-steps.ensures) c.makes_function.ensures (c.given_linkage-linkage.ensures a) in
    walk_told s a c.args.line b p _ same c.requires.symbols c.shape.new.types c.in_err-shaped.field-0.0 c.from_residual.result c.from_residual.ensures.1 c.in_err-shaped.ensures.grows (sym c.in_default.ensures) (c.in_err-shaped.ensures.err (state_of s a) refl)

pub declare_name-requires-clause-symbols : goal.declare_name-requires-clause-symbols
declare_name-requires-clause-symbols c = symbols_in_later c.args.types.now c.shape.new.types c.in_ok-shaped.ensures.grows.extends c.args.scopes.now.symbols c.requires.symbols

pub returns-in_err-declare_name : goal.returns-in_err-declare_name
returns-in_err-declare_name c =
    let s = c.args.scopes.now in
    let a = c.args.types.now in
    let m = c.shape.new.types in
    memory_stops naming_in IsNamingIn (named_at (state_of s a) c.args.line (specified_seen a c.args.base.now) (declared_seen a c.args.d)) s c.declare_name.new.scopes a c.declare_name.new.types c.from_residual-in_err-declare_name.result c.from_residual-in_err-declare_name.ensures.1
    (keeps_on s s c.declare_name.new.scopes a m c.declare_name.new.types (keeps_grown s a m c.requires.symbols c.in_ok-shaped.ensures.grows) c.in_err-declare_name.ensures.keeps)

pub returns : goal.returns
returns c =
    let s = c.args.scopes.now in
    let a = c.args.types.now in
    let m = c.shape.new.types in
    let b = specified_seen a c.args.base.now in
    let p = declared_seen a c.args.d in
    let x = c.in_ok-shaped.shaped in
    let fine = c.in_ok-shaped.ensures.ok (state_of s a) refl in
    let of = ap (λ ss. formed b.of (steps_seen a ss)) c.as_slice-steps.ensures in
    let same = named_same (state_of s a) b p c.first_class-class.result c.name_bytes-name.result.now _ c.makes_function.result (linked c.given_linkage-linkage.result) (c.first_class-class.ensures ∙ ap first_class c.as_slice.ensures) c.name_bytes-name.ensures of c.makes_function.ensures (c.given_linkage-linkage.ensures a) in
    let named = naming_as c.first_class-class.result (linked c.given_linkage-linkage.result) c.name_or_empty.result c.name_bytes-name.result.now (type_at m x.of) _ (c.name_or_empty.ensures ∙ ap name_or_empty (shape_name (state_of s a) b p m x fine) ∙ sym c.name_bytes-name.ensures) (shape_type (state_of s a) b p m x fine ∙ sym of) in
    walk_fine s a c.args.line b p _ same c.requires.symbols c.declare_name.new.scopes m c.declare_name.new.types _ (shaped_seen m x) c.in_ok-shaped.ensures.grows (sym c.in_default.ensures) fine named c.in_ok-declare_name.ensures.state c.in_ok-shaped.ensures.within c.in_ok-declare_name.ensures.keeps
