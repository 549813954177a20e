use Rattle.std.proofs.Common.{◌≡◌, w64, length, pos, false, refl, ◌∙◌, ap, subst}
use Rattle.std.specs.Prelude.{None}
use Rattle.std.proofs.lemmas.Int.{to_z-of_z}
use Rattle.std.proofs.lemmas.Result.{err_from_is_err_and}
use Rattle.c_symbols.specs.Scoping.{symbol_named}
use Rattle.c_types.specs.Table.{type_at, types}
use Rattle.c_meaning.specs.CoreTrees.{seen}
use Rattle.c_meaning.specs.ExprConstraints.{differs_from_int_function}
use Rattle.c_meaning.specs.State.{State, external, link_or_next, with_link}
use Rattle.c_check_expr.specs.Known.{state_of}
use Rattle.c_check_expr.specs.Redeclared.{IsRedeclared}
use Rattle.c_check_expr.specs.KnownLaws.{symbols_in-append}
use Rattle.c_check_expr.proofs.lemmas.KnownSymbols.{state-declare}
use Rattle.c_check_expr.proofs.LinkedNames.{called_fine, called_state, redeclared_told, symbol_known}
use Rattle.c_check_expr.specs.SymbolsStay.{state_stays, symbols_in_later}
use Rattle.c_check_expr.proofs.names.new_function.Goals as goal

pub returns-in_err-of-clause-symbols : goal.returns-in_err-of-clause-symbols
returns-in_err-of-clause-symbols c = symbols_in_later c.args.types.now c.int_function.new.types c.int_function.ensures.grows.extends c.args.scopes.now.symbols c.requires.symbols

pub linked-requires-clause-symbols : goal.linked-requires-clause-symbols
linked-requires-clause-symbols c = symbols_in_later c.args.types.now c.int_function.new.types c.int_function.ensures.grows.extends c.args.scopes.now.symbols c.requires.symbols

pub returns-in_err-id-clause-err : goal.returns-in_err-id-clause-err
returns-in_err-id-clause-err c =
    let x = c.args.name.now in
    let st = state_stays c.args.scopes.now c.args.types.now c.int_function.new.types c.int_function.ensures.grows c.requires.symbols in
    let p = err_from_is_err_and c.from_residual-in_err-id.result c.from_residual-in_err-id.ensures.1 in
    rw (p.1, p.2)
    (redeclared_told (state_of c.args.scopes.now c.args.types.now) _ c.args.line x _ c.in_err-id.field-0.0
    (subst (λ (s : State). IsRedeclared c.in_err-id.field-0.0 c.args.line (differs_from_int_function s (symbol_named s.links x))) st c.in_err-id.ensures.err))

pub returns-in-Ok-clause-ok : goal.returns-in-Ok-clause-ok
returns-in-Ok-clause-ok c =
    let x = c.args.name.now in
    let line = c.args.line in
    let t = c.int_function.new.types in
    let s0 = state_of c.args.scopes.now c.args.types.now in
    let st = state_stays c.args.scopes.now c.args.types.now t c.int_function.ensures.grows c.requires.symbols in
    let fits = subst (λ (s : State). differs_from_int_function s (symbol_named s.links x) ≡ false) st c.in_ok-id.ensures.fits in
    let state = subst (λ (s : State). state_of c.linked.new.scopes t ≡ with_link s x (symbol_named s.links x) (external line 0 None)) st c.in_ok-id.ensures.state in
    let id = subst (λ (s : State). c.in_ok-id.id ≡ link_or_next s x) st c.in_ok-id.ensures.id in
    let e = c.in-Ok.ensures in
    let level = c.in-Ok-Ok.ensures.1 ∙ c.level.ensures ∙ ap length c.in_ok-id.ensures.outer in
    let value = to_z-of_z w64 c.in-Ok-Ok.value (rw (c.in-Ok-Ok.ensures'.1) (c.in-Ok-Ok.ensures'.0)) ∙ c.in-Ok-Ok.ensures'.1 ∙ ap pos id in
    let behind = state-declare c.linked.new.scopes c.declare.new.self t x c.in-Ok.field-0 _ e.outer e.inner e.id e.links e.symbols in
    let same = symbol_known (types t) c.in_ok-of.of line c.in-Ok-Ok.level (length c.args.scopes.now.outer) _ (pos (link_or_next s0 x)) c.in_ok-of.ensures.means level value in
    called_fine s0 (state_of c.declare.new.self t) line x (seen (type_at t) c.leaf.result) fits
    (called_state s0 c.linked.new.scopes c.declare.new.self t x _ c.in-Ok.field-0 line state behind same)
    (rw (c.leaf.ensures, c.in_ok-of.ensures.means, id) refl)

pub returns-in-Ok-clause-symbols : goal.returns-in-Ok-clause-symbols
returns-in-Ok-clause-symbols c =
    rw (c.in-Ok.ensures.symbols) (symbols_in-append (length c.int_function.new.types.forms) c.linked.new.scopes.symbols _ c.linked.ensures.symbols c.in_ok-of.ensures.within)

pub returns-in-Ok-clause-outer : goal.returns-in-Ok-clause-outer
returns-in-Ok-clause-outer c = c.in-Ok.ensures.outer ∙ c.linked.ensures.outer
