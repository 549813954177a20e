use Rattle.std.proofs.Common.{map, sym, ap, ◌∙◌, arith}
use Rattle.c_ast.specs.UnitViews.{initialisers_of}
use Rattle.c_ast.specs.SeenUnits.{initialiser_seen}
use Rattle.c_ast.proofs.lemmas.SeenNodes.{form_list}
use Rattle.c_meaning.specs.Initialising.{is_scalar_at, is_within}
use Rattle.c_check_expr.specs.Kept.{keeps_itself, keeps_on}
use Rattle.c_initialisers.specs.Storing.{filling_in}
use Rattle.c_initialisers.proofs.Braces.{list_breaks, list_goes, list_stops}
use Rattle.c_initialisers.proofs.FillingStays.{filling_later}
use Rattle.c_initialisers.proofs.SeenNodes.{form_expr}
use Rattle.c_initialisers.proofs.WaitsStay.{entries_later}
use Rattle.c_initialisers.proofs.Walked.{item_as, items_end, items_on, items_start, items_stop, value_stops, value_walk}
use Rattle.c_initialisers.proofs.walk.+walk.Goals as goal

pub item-returns-in_err-c-in-Expr-clause-walks : goal.item-returns-in_err-c-in-Expr-clause-walks
item-returns-in_err-c-in-Expr-clause-walks t c =
    let i = c.args.i.now in
    item_as c.args.listing (filling_in c.args.types.now c.args.before) c.args.scopes.now c.expression.new.scopes c.args.types.now c.expression.new.types c.from_residual.result i _ _ c.in-Expr.is (form_expr c.in-Expr.e i.line) (value_stops c.args.listing i.line _ c.args.before c.args.scopes.now c.expression.new.scopes c.args.types.now c.expression.new.types c.in_err-c-in-Expr.field-0.0 c.from_residual.result c.from_residual.ensures.1 c.in_err-c-in-Expr.ensures)

pub item-value-requires-clause-before : goal.item-value-requires-clause-before
item-value-requires-clause-before t c = filling_later c.args.types.now c.expression.new.types c.in_ok-c-in-Expr.ensures.keeps.extends c.args.before c.requires.before

pub item-value-requires-clause-entries : goal.item-value-requires-clause-entries
item-value-requires-clause-entries t c = entries_later c.args.types.now c.expression.new.types c.in_ok-c-in-Expr.ensures.keeps.extends c.members_are_complete.ensures c.args.before.waits.items c.requires.entries

pub item-returns-in_ok-c-in-Expr-clause-walks : goal.item-returns-in_ok-c-in-Expr-clause-walks
item-returns-in_ok-c-in-Expr-clause-walks t c =
    let i = c.args.i.now in
    let v = c.value.ensures in
    item_as c.args.listing (filling_in c.args.types.now c.args.before) c.args.scopes.now c.expression.new.scopes c.args.types.now c.value.new.types c.value.result i _ _ c.in-Expr.is (form_expr c.in-Expr.e i.line) (value_walk c.args.listing i.line _ c.args.before c.args.scopes.now c.expression.new.scopes c.args.types.now c.expression.new.types c.value.new.types c.in_ok-c-in-Expr.c c.value.result c.requires.before c.requires.entries c.members_are_complete.ensures c.in_ok-c-in-Expr.ensures v.grows v.ok v.err v.within)

pub item-returns-in-List-clause-walks : goal.item-returns-in-List-clause-walks
item-returns-in-List-clause-walks t c =
    let i = c.args.i.now in
    item_as c.args.listing (filling_in c.args.types.now c.args.before) c.args.scopes.now c.list.new.scopes c.args.types.now c.list.new.types c.list.result i _ _ c.in-List.is (form_list c.in-List.items c.in-List.comma i.line) (rw c.as_slice.ensures at c.list.ensures.walks c.in-List.comma)

pub items-loop-i-init : goal.items-loop-i-init
items-loop-i-init t c = (items_start c.args.listing c.args.start c.args.scopes.now c.args.types.now c.args.list.now c.requires.symbols c.requires.start, keeps_itself c.args.scopes.now c.args.types.now c.requires.symbols, c.requires.start, c.requires.entries)

pub items-returns-in_err-all-clause-walks : goal.items-returns-in_err-all-clause-walks
items-returns-in_err-all-clause-walks t c = items_stop c.args.listing c.args.start c.args.scopes.now c.loop-i.scopes c.item.new.scopes c.args.types.now c.loop-i.types c.item.new.types c.args.list.now c.loop-i.all c.loop-i.i-index c.i-item.result c.in_err-all.field-0.0 c.from_residual.result (omega arith) c.i-item.is c.loop-i.invariant.0 c.in_err-all.ensures.walks c.from_residual.ensures.1

pub items-loop-i-preserved : goal.items-loop-i-preserved
items-loop-i-preserved t c = (items_on c.args.listing c.args.start c.args.scopes.now c.loop-i.scopes c.item.new.scopes c.args.types.now c.loop-i.types c.item.new.types c.args.list.now c.loop-i.all _ c.loop-i.i-index c.i-item.result (omega arith) c.i-item.is c.loop-i.invariant.0 c.in_ok-all.ensures.walks, keeps_on c.args.scopes.now c.loop-i.scopes c.item.new.scopes c.args.types.now c.loop-i.types c.item.new.types c.loop-i.invariant.1 c.in_ok-all.ensures.walks.keeps, c.in_ok-all.ensures.walks.within, c.in_ok-all.ensures.entries)

pub items-returns-clause-walks : goal.items-returns-clause-walks
items-returns-clause-walks t c = items_end c.args.listing c.args.start c.args.scopes.now c.loop-i.scopes c.args.types.now c.loop-i.types c.args.list.now c.loop-i.all c.loop-i.i-index (omega arith) c.loop-i.invariant.0

pub list-returns-in_err-filled-clause-walks : goal.list-returns-in_err-filled-clause-walks
list-returns-in_err-filled-clause-walks t c comma =
    let o = c.in_ok-opened.opened in
    let h = c.in_ok-opened.ensures.is in
    list_stops c.args.stands.1 c.inside-inner.result c.args.stands.0 (initialisers_of (map initialiser_seen c.args.list.now)) comma c.args.before c.args.scopes.now c.args.types.now o c.begins_with_text.result h (sym c.begins_with_text.ensures) c.inside-inner.ensures.storage (c.inside-inner.ensures.scalar o.waits.items ∙ ap is_scalar_at (sym h.at))
    c.items.new.scopes c.items.new.types c.in_err-filled.field-0.0 c.from_residual-in_err-filled.result c.from_residual-in_err-filled.ensures.1 c.in_err-filled.ensures.walks

pub list-returns-in-Some-clause-walks : goal.list-returns-in-Some-clause-walks
list-returns-in-Some-clause-walks t c comma =
    let o = c.in_ok-opened.opened in
    let h = c.in_ok-opened.ensures.is in
    let z = c.standing.ensures in
    list_breaks c.args.stands.1 c.inside-inner.result c.args.stands.0 (initialisers_of (map initialiser_seen c.args.list.now)) comma c.args.before c.args.scopes.now c.args.types.now o c.begins_with_text.result h (sym c.begins_with_text.ensures) c.inside-inner.ensures.storage (c.inside-inner.ensures.scalar o.waits.items ∙ ap is_scalar_at (sym h.at))
    c.items.new.scopes c.items.new.types c.in_ok-filled.filled c.in_ok-filled.ensures.walks c.in-Some.number c.is_within-within.result c.standing.result z.storage z.barred z.unfit (c.is_within-within.ensures c.args.types.now o.waits.items ∙ ap (is_within c.args.stands.1.is_scalar) (sym h.at)) c.in-Some.ensures

pub list-returns-clause-walks : goal.list-returns-clause-walks
list-returns-clause-walks t c comma =
    let o = c.in_ok-opened.opened in
    let h = c.in_ok-opened.ensures.is in
    let z = c.standing.ensures in
    list_goes c.args.stands.1 c.inside-inner.result c.args.stands.0 (initialisers_of (map initialiser_seen c.args.list.now)) comma c.args.before c.args.scopes.now c.args.types.now o c.begins_with_text.result h (sym c.begins_with_text.ensures) c.inside-inner.ensures.storage (c.inside-inner.ensures.scalar o.waits.items ∙ ap is_scalar_at (sym h.at))
    c.items.new.scopes c.items.new.types c.in_ok-filled.filled c.in_ok-filled.ensures.walks c.is_within-within.result c.standing.result z.storage z.barred z.unfit (c.is_within-within.ensures c.args.types.now o.waits.items ∙ ap (is_within c.args.stands.1.is_scalar) (sym h.at)) c.in_default.ensures c.in_ok-opened.ensures.waits c.members_are_complete.ensures

pub list-returns-clause-entries : goal.list-returns-clause-entries
list-returns-clause-entries t c =
    let w = c.in_ok-filled.ensures.walks in
    entries_later c.args.types.now c.items.new.types w.keeps.extends c.members_are_complete.ensures c.in_ok-opened.opened.waits.items c.in_ok-opened.ensures.waits
