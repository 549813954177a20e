use Rattle.std.proofs.Common.{length, sym, ap, ◌∙◌}
use Rattle.std.specs.Prelude.{None}
use Rattle.c_symbols.specs.Scoping.{symbol_named}
use Rattle.c_types.specs.Table.{type_at, types, tagged as count}
use Rattle.c_meaning.specs.State.{counted, declared}
use Rattle.c_meaning.specs.TypeRows.{tagged}
use Rattle.c_check_expr.specs.Known.{state_of}
use Rattle.c_check_expr.specs.Kept.{keeps_itself}
use Rattle.c_check_expr.proofs.lemmas.Walking.{memory_stops}
use Rattle.c_check_expr.specs.Walks.{IsBelow}
use Rattle.c_check_decl.specs.LoneTags.{lone_tag_in}
use Rattle.c_check_decl.proofs.LoneTagWalks.{lone_known, lone_new, lone_other}
use Rattle.c_check_decl.proofs.own_specifiers.lone_tag.Goals as goal

pub returns-in_err-key : goal.returns-in_err-key
returns-in_err-key c =
    let s = c.args.scopes.now in
    let a = c.args.types.now in
    memory_stops type_at IsBelow (lone_tag_in s a c.args.line c.args.kind c.args.tag.now) s s a a c.from_residual.result c.from_residual.ensures.1 (keeps_itself s a c.requires)

pub new_tag-requires-clause-absent : goal.new_tag-requires-clause-absent
new_tag-requires-clause-absent c =
    let o = c.args.scopes.now in
    let k = c.deref.ensures.value ∙ c.in_ok-key.ensures in
    let d = c.deref-in_default.ensures.value ∙ c.in_ok-key.ensures in
    ap (symbol_named o.inner) d ∙ sym (ap (symbol_named o.inner) k) ∙ sym c.find_here.ensures.means ∙ c.in_default.is

pub returns-in_err-new_tag : goal.returns-in_err-new_tag
returns-in_err-new_tag c =
    let s = c.args.scopes.now in
    let a = c.args.types.now in
    memory_stops type_at IsBelow (lone_tag_in s a c.args.line c.args.kind c.args.tag.now) s c.new_tag.new.scopes a c.new_tag.new.types c.from_residual-in_err-new_tag.result c.from_residual-in_err-new_tag.ensures.1 c.in_err-new_tag.ensures.keeps

pub returns-in_default : goal.returns-in_default
returns-in_default c =
    let o = c.args.scopes.now in
    let a = c.args.types.now in
    let s = state_of o a in
    let k = c.deref.ensures.value ∙ c.in_ok-key.ensures in
    let d = c.deref-in_default.ensures.value ∙ c.in_ok-key.ensures in
    let of = type_at c.new_tag.new.types c.in_ok-new_tag.field-0 in
    let n = c.in_ok-new_tag.ensures.state ∙ ap (λ x. declared (counted s) x (tagged c.args.line (length o.outer) of None)) d in
    lone_new o a c.args.line c.args.kind c.args.tag.now c.new_tag.new.scopes c.new_tag.new.types c.in_ok-new_tag.field-0
    (sym (ap (symbol_named o.inner) k) ∙ sym c.find_here.ensures.means ∙ c.in_default.is) n (c.in_ok-new_tag.ensures.means ∙ c.record_form.ensures.means (types a) (count a.forms))
    c.in_ok-new_tag.ensures.within c.in_ok-new_tag.ensures.keeps

pub returns-then-is_of_kind : goal.returns-then-is_of_kind
returns-then-is_of_kind c =
    let o = c.args.scopes.now in
    let k = c.deref.ensures.value ∙ c.in_ok-key.ensures in
    lone_known o c.args.types.now c.args.line c.args.kind c.args.tag.now c.in-Some.id c.symbol_type-of.result c.requires
    (sym (ap (symbol_named o.inner) k) ∙ sym c.find_here.ensures.means ∙ c.in-Some.is) c.symbol_type-of.ensures.means (sym c.is_of_kind.ensures ∙ c.if-is_of_kind.true) c.symbol_type-of.ensures.within

pub returns : goal.returns
returns c =
    let o = c.args.scopes.now in
    let k = c.deref.ensures.value ∙ c.in_ok-key.ensures in
    lone_other o c.args.types.now c.args.line c.args.kind c.args.tag.now c.in-Some.id c.symbol_type-of.result c.requires
    (sym (ap (symbol_named o.inner) k) ∙ sym c.find_here.ensures.means ∙ c.in-Some.is) c.symbol_type-of.ensures.means (sym c.is_of_kind.ensures ∙ c.if-is_of_kind.false)
