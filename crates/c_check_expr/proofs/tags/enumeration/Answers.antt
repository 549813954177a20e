use Rattle.std.proofs.Common.{◌≡◌, ℕ, List, length, sym, ap, ◌∙◌}
use Rattle.std.specs.Prelude.{◌≢◌, true, false, pos, Some, Result, Ok, Err, IfErr, IfOk, OnOk, Option}
use Rattle.c_symbols.specs.Scoping.{symbol_named}
use Rattle.c_types.specs.Table.{Table, type_at}
use Rattle.c_meaning.specs.Nodes as node
use Rattle.c_meaning.specs.State.{State, counted, declared, level_of, place_here, replaced}
use Rattle.c_meaning.specs.TypeRows.{enumeration_type, tag_key, tagged}
use Rattle.c_meaning.specs.Typing.{Fine}
use Rattle.c_values.specs.declared.check_fault.CheckFault.{CheckFault}
use Rattle.c_values.specs.declared.check_fault.CheckFault.TheVariants.{Constraint, Memory}
use Rattle.c_check_expr.specs.AtNode.{Tells}
use Rattle.c_check_expr.specs.Known.{state_of}
use Rattle.c_check_expr.specs.Listed.{is_listed}
use Rattle.c_check_expr.proofs.TagNodes.{at_list, enumeration_bare, enumeration_known, enumeration_listed, enumeration_new}
use Rattle.c_check_expr.specs.Kept.{keeps_later}
use Rattle.c_check_expr.proofs.Telling.{tells_constraint}
use Rattle.c_check_expr.proofs.tags.enumeration.Goals as goal

pub returns-in_err-add_tagged-clause-keeps : goal.returns-in_err-add_tagged-clause-keeps
returns-in_err-add_tagged-clause-keeps c = keeps_later c.args.scopes.now c.args.types.now c.add_tagged.new.types c.add_tagged.ensures.extends c.requires

pub returns-in_default-clause-ok : goal.returns-in_default-clause-ok
returns-in_default-clause-ok c =
    let o = c.args.scopes.now in
    enumeration_bare (state_of o c.args.types.now) (state_of o c.add_tagged.new.types) c.args.line c.args.tag.now (type_at c.add_tagged.new.types c.in_ok-add_tagged.field-0)
    c.in_default.is (c.in_ok-add_tagged.ensures.state o c.requires) c.in_ok-add_tagged.ensures.means

pub returns-in_default-clause-keeps : goal.returns-in_default-clause-keeps
returns-in_default-clause-keeps c = keeps_later c.args.scopes.now c.args.types.now c.add_tagged.new.types c.add_tagged.ensures.extends c.requires

pub returns-in-None-clause-ok : goal.returns-in-None-clause-ok
returns-in-None-clause-ok c =
    let o = c.args.scopes.now in
    let s = state_of o c.args.types.now in
    let x = c.in-Some.tag in
    let k = c.deref.ensures.value ∙ c.in_ok-key.ensures ∙ ap tag_key c.as_slice.ensures in
    let d = c.deref-in-None.ensures.value ∙ c.in_ok-key.ensures ∙ ap tag_key c.as_slice.ensures in
    let of = type_at c.new_tag.new.types c.in_ok-new_tag-in-None.field-0 in
    let n = c.in_ok-new_tag-in-None.ensures.state ∙ ap (λ y. declared (counted s) y (tagged c.args.line (length o.outer) of (Some (pos 0)))) d in
    enumeration_new s (state_of c.new_tag.new.scopes c.new_tag.new.types) c.args.line c.args.tag.now x of c.in-Some.is (sym (ap (symbol_named o.inner) k) ∙ sym c.find_here.ensures.means ∙ c.in-None.is) n c.in_ok-new_tag-in-None.ensures.means

-- a tag that stands in the innermost scope
fine : (s n : State) (t : Table) (line : ℕ) (tag : Option (List ℕ)) (x : List ℕ) (id : ℕ) (r : Result ℕ CheckFault) → tag ≡ Some x → place_here s (tag_key x) ≡ Some id → OnOk r (is_listed s id ≡ false) →
    IfOk r (λ of. n ≡ replaced (counted s) id (tagged line (level_of s) (type_at t of) (Some (pos 0)))) → IfOk r (λ of. type_at t of ≡ enumeration_type s.count) → IfOk r (λ of. at_list s line tag ≡ Fine n (node.Whole (type_at t of)))
fine s n t line tag x id (Ok of) g h l e o = enumeration_known s n line tag x id (type_at t of) g h l e o
fine s n t line tag x id (Err f) g h l e o = tt

told : (s : State) (line : ℕ) (tag : Option (List ℕ)) (x : List ℕ) (id : ℕ) (r : Result ℕ CheckFault) → tag ≡ Some x → place_here s (tag_key x) ≡ Some id →
    IfErr r (λ e. e ≢ Memory → (is_listed s id ≡ true) × (e ≡ Constraint 8 line)) → IfErr r (λ e. Tells e (at_list s line tag))
told s line tag x id (Ok of) g h e = tt
told s line tag x id (Err f) g h e = tells_constraint f 8 line (at_list s line tag) (λ m. ((e m).1, enumeration_listed s line tag x id g h (e m).0))

pub returns-clause-ok : goal.returns-clause-ok
returns-clause-ok c =
    let o = c.args.scopes.now in
    let k = c.deref.ensures.value ∙ c.in_ok-key.ensures ∙ ap tag_key c.as_slice.ensures in
    let e = c.listed.ensures in
    fine (state_of o c.args.types.now) (state_of c.listed.new.scopes c.listed.new.types) c.listed.new.types c.args.line c.args.tag.now c.in-Some.tag c.in-Some-find_here.id c.listed.result
    c.in-Some.is (sym (ap (symbol_named o.inner) k) ∙ sym c.find_here.ensures.means ∙ c.in-Some-find_here.is) e.ok e.state e.means

pub returns-clause-err : goal.returns-clause-err
returns-clause-err c =
    let o = c.args.scopes.now in
    let k = c.deref.ensures.value ∙ c.in_ok-key.ensures ∙ ap tag_key c.as_slice.ensures in
    told (state_of o c.args.types.now) c.args.line c.args.tag.now c.in-Some.tag c.in-Some-find_here.id c.listed.result
    c.in-Some.is (sym (ap (symbol_named o.inner) k) ∙ sym c.find_here.ensures.means ∙ c.in-Some-find_here.is) c.listed.ensures.err
