use Rattle.std.proofs.Common.{◌++◌, ◌∷◌, [], length, sym, ap, ◌∙◌}
use Rattle.std.specs.Prelude.{None}
use Rattle.c_symbols.specs.Scoping.{found, symbol_named}
use Rattle.c_types.specs.Table.{type_at}
use Rattle.c_meaning.specs.State.{counted, declared}
use Rattle.c_meaning.specs.TypeRows.{tag_key, tagged}
use Rattle.c_check_expr.specs.Known.{state_of}
use Rattle.c_check_expr.proofs.TagNodes.{absent_here, enumeration_tag_known, enumeration_tag_new, enumeration_tag_other}
use Rattle.c_check_expr.proofs.tags.enumeration_tag.Goals as goal

pub new_tag-requires-clause-absent : goal.new_tag-requires-clause-absent
new_tag-requires-clause-absent c =
    let o = c.args.scopes.now in
    let k = c.deref.ensures.value ∙ c.in_ok-key.ensures in
    let d = c.deref-in_default.ensures.value ∙ c.in_ok-key.ensures in
    ap (symbol_named o.inner) d ∙ absent_here o.outer o.inner (tag_key c.args.tag.now) (sym (ap (found (o.outer ++ o.inner ∷ [])) k) ∙ sym c.find.ensures.means ∙ c.in_default.is)

pub returns-in_default-clause-ok : goal.returns-in_default-clause-ok
returns-in_default-clause-ok c =
    let o = c.args.scopes.now in
    let s = state_of o c.args.types.now in
    let k = c.deref.ensures.value ∙ c.in_ok-key.ensures in
    let d = c.deref-in_default.ensures.value ∙ c.in_ok-key.ensures in
    let of = type_at c.new_tag.new.types c.in_ok-new_tag.field-0 in
    let n = c.in_ok-new_tag.ensures.state ∙ ap (λ x. declared (counted s) x (tagged c.args.line (length o.outer) of None)) d in
    enumeration_tag_new s (state_of c.new_tag.new.scopes c.new_tag.new.types) c.args.line c.args.tag.now of (sym (ap (found (o.outer ++ o.inner ∷ [])) k) ∙ sym c.find.ensures.means ∙ c.in_default.is) n (c.in_ok-new_tag.ensures.means)

pub returns-then-is_enumeration-clause-ok : goal.returns-then-is_enumeration-clause-ok
returns-then-is_enumeration-clause-ok c =
    let o = c.args.scopes.now in
    let k = c.deref.ensures.value ∙ c.in_ok-key.ensures in
    enumeration_tag_known (state_of o c.args.types.now) c.args.line c.args.tag.now c.in-Some.id (type_at c.args.types.now c.symbol_type-of.result)
    (sym (ap (found (o.outer ++ o.inner ∷ [])) k) ∙ sym c.find.ensures.means ∙ c.in-Some.is) c.symbol_type-of.ensures.means (sym c.is_enumeration.ensures ∙ c.if-is_enumeration.true)

pub returns-clause-err : goal.returns-clause-err
returns-clause-err c =
    let o = c.args.scopes.now in
    let k = c.deref.ensures.value ∙ c.in_ok-key.ensures in
    enumeration_tag_other (state_of o c.args.types.now) c.args.line c.args.tag.now c.in-Some.id (type_at c.args.types.now c.symbol_type-of.result)
    (sym (ap (found (o.outer ++ o.inner ∷ [])) k) ∙ sym c.find.ensures.means ∙ c.in-Some.is) c.symbol_type-of.ensures.means (sym c.is_enumeration.ensures ∙ c.if-is_enumeration.false)
