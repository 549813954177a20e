use Rattle.std.proofs.Common.{◌≡◌, ◌+◌, ◌<◌, ◌∷◌, [], List, length, inl, inr, sym, ap, refl, subst, ◌∙◌, true≢false, arith}
use Rattle.std.specs.Prelude.{Some, slice_get}
use Rattle.std.proofs.lemmas.List.{length-append}
use Rattle.indexmap.proofs.CallerLemmas.{insert_entry-new}
use Rattle.c_types.specs.declared.form_key.FormKey.{FormKey}
use Rattle.c_types.specs.declared.type_table.Formed.{Formed}
use Rattle.c_types.specs.Table.{Table, Extends, IsNew, IsOpen, IsOver, formed, tagged, type_at, types}
use Rattle.c_types.specs.Keeps.{IsKeyOf, Keeps}
use Rattle.c_types.specs.Facts.{IsFactOf}
use Rattle.c_types.proofs.Defined.{AreOpen, open_all, open_tagged}
use Rattle.c_types.proofs.Insides.{length-forms, table_of}
use Rattle.c_types.proofs.Opening.{new_open}
use Rattle.c_types.proofs.Keys.{none_of}
use Rattle.c_types.proofs.Stays.{more}
use Rattle.c_types.proofs.Placed.{extends_itself, extends_push, is_new, keeps_push, known_place, table_push, type_at_end}
use Rattle.c_types.proofs.type_table.TypeTable.place.Goals as goal

pub overflow_add-result : goal.overflow_add-result
overflow_add-result c =
    let i = c.self.inside in
    let v : length (table_of i.basic i.formed.entries i.definitions.entries).forms ≡ length c.args.self.now.forms = ap (λ (t : Table). length t.forms) c.self.view_is in
    omega (arith, v, length-forms i.basic i.formed.entries c.self.invariant.basic, c.len-next.ensures, c.in-Some.ensures.within)

pub invariant_of-self-in-None : goal.invariant_of-self-in-None
invariant_of-self-in-None c =
    let i = c.self.inside in
    let x : FormKey × Formed = (c.args.key, c.args.entry) in
    let l : length c.args.self.now.forms ≡ 10 + length i.formed.entries = ap (λ (t : Table). length t.forms) (sym c.self.view_is) ∙ length-forms i.basic i.formed.entries c.self.invariant.basic in
    let n = none_of _ c.in-None.ensures.found in
    let e = c.in_ok-insert-in-None.ensures.entries ∙ insert_entry-new _ i.formed c.args.key c.args.entry n in
    let a = subst (λ k. IsKeyOf k c.args.entry.form c.args.key) l c.requires.key in
    let o = subst (λ k. IsOver k c.args.entry.form) l c.requires.over in
    let h = subst (λ (t : Table). IsFactOf t c.args.entry.form c.args.entry.facts) (sym c.self.view_is) c.requires.facts in
    subst (λ (es : List (FormKey × Formed)). Keeps i.basic es i.definitions.entries (table_of i.basic es i.definitions.entries)) (sym e)
    (keeps_push i.basic i.formed.entries i.definitions.entries x c.self.invariant a o c.requires.formed h)

pub returns-in-Some-clause-added : goal.returns-in-Some-clause-added
returns-in-Some-clause-added c =
    let i = c.self.inside in
    let l : length c.args.self.now.forms ≡ 10 + length i.formed.entries = ap (λ (t : Table). length t.forms) (sym c.self.view_is) ∙ length-forms i.basic i.formed.entries c.self.invariant.basic in
    let r = known_place i.basic i.formed.entries i.definitions.entries c.args.entry.form c.args.key (length c.args.self.now.forms) c.in-Some.index c.self.invariant c.requires.key c.requires.formed l c.in-Some.ensures.index in
    inl (r.0, subst (λ (t : Table). slice_get t.forms (10 + c.in-Some.index) ≡ Some c.args.entry.form) c.self.view_is r.1, refl)

pub returns-in-Some-clause-means : goal.returns-in-Some-clause-means
returns-in-Some-clause-means c =
    let i = c.self.inside in
    let l : length c.args.self.now.forms ≡ 10 + length i.formed.entries = ap (λ (t : Table). length t.forms) (sym c.self.view_is) ∙ length-forms i.basic i.formed.entries c.self.invariant.basic in
    let r = known_place i.basic i.formed.entries i.definitions.entries c.args.entry.form c.args.key (length c.args.self.now.forms) c.in-Some.index c.self.invariant c.requires.key c.requires.formed l c.in-Some.ensures.index in
    subst (λ (t : Table). type_at t (10 + c.in-Some.index) ≡ formed (types t) (tagged t.forms) c.args.entry.form) c.self.view_is r.2

pub returns-in-Some-clause-within : goal.returns-in-Some-clause-within
returns-in-Some-clause-within c =
    let i = c.self.inside in
    let l : length c.args.self.now.forms ≡ 10 + length i.formed.entries = ap (λ (t : Table). length t.forms) (sym c.self.view_is) ∙ length-forms i.basic i.formed.entries c.self.invariant.basic in
    let r = known_place i.basic i.formed.entries i.definitions.entries c.args.entry.form c.args.key (length c.args.self.now.forms) c.in-Some.index c.self.invariant c.requires.key c.requires.formed l c.in-Some.ensures.index in
    subst (λ (t : Table). 10 + c.in-Some.index < length t.forms) c.self.view_is r.3

pub returns-in-Some-clause-extends : goal.returns-in-Some-clause-extends
returns-in-Some-clause-extends c = extends_itself c.args.self.now

pub returns-in_ok-insert-in-None-clause-added : goal.returns-in_ok-insert-in-None-clause-added
returns-in_ok-insert-in-None-clause-added c =
    let i = c.self.inside in
    let x : FormKey × Formed = (c.args.key, c.args.entry) in
    let n = none_of _ c.in-None.ensures.found in
    let e = c.in_ok-insert-in-None.ensures.entries ∙ insert_entry-new _ i.formed c.args.key c.args.entry n in
    let m = is_new i.basic i.formed.entries i.definitions.entries c.args.entry.form c.args.key (length c.args.self.now.forms) c.self.invariant c.requires.key c.requires.formed n in
    inr (
      subst (λ (t : Table). IsNew t c.args.entry.form) c.self.view_is m,
      c.len-next.ensures,
      ap (λ (es : List (FormKey × Formed)). table_of i.basic es i.definitions.entries) e ∙ table_push i.basic i.formed.entries i.definitions.entries x ∙ ap (λ (t : Table). more t c.args.entry.form) c.self.view_is,
    )

pub returns-in_ok-insert-in-None-clause-means : goal.returns-in_ok-insert-in-None-clause-means
returns-in_ok-insert-in-None-clause-means c =
    let i = c.self.inside in
    let x : FormKey × Formed = (c.args.key, c.args.entry) in
    let n = none_of _ c.in-None.ensures.found in
    let e = c.in_ok-insert-in-None.ensures.entries ∙ insert_entry-new _ i.formed c.args.key c.args.entry n in
    let p = ap (λ (es : List (FormKey × Formed)). table_of i.basic es i.definitions.entries) e ∙ table_push i.basic i.formed.entries i.definitions.entries x ∙ ap (λ (t : Table). more t c.args.entry.form) c.self.view_is in
    ap (λ (t : Table). type_at t c.len-next.result) p ∙ ap (type_at (more c.args.self.now c.args.entry.form)) c.len-next.ensures ∙ type_at_end c.args.self.now.forms c.args.entry.form

pub returns-in_ok-insert-in-None-clause-within : goal.returns-in_ok-insert-in-None-clause-within
returns-in_ok-insert-in-None-clause-within c =
    let i = c.self.inside in
    let x : FormKey × Formed = (c.args.key, c.args.entry) in
    let n = none_of _ c.in-None.ensures.found in
    let e = c.in_ok-insert-in-None.ensures.entries ∙ insert_entry-new _ i.formed c.args.key c.args.entry n in
    let p = ap (λ (es : List (FormKey × Formed)). table_of i.basic es i.definitions.entries) e ∙ table_push i.basic i.formed.entries i.definitions.entries x ∙ ap (λ (t : Table). more t c.args.entry.form) c.self.view_is in
    let l = length-append c.args.self.now.forms (c.args.entry.form ∷ []) in
    subst (λ (t : Table). c.len-next.result < length t.forms) (sym p) (omega (arith, l, c.len-next.ensures))

pub returns-in_ok-insert-in-None-clause-extends : goal.returns-in_ok-insert-in-None-clause-extends
returns-in_ok-insert-in-None-clause-extends c =
    let i = c.self.inside in
    let x : FormKey × Formed = (c.args.key, c.args.entry) in
    let n = none_of _ c.in-None.ensures.found in
    let e = c.in_ok-insert-in-None.ensures.entries ∙ insert_entry-new _ i.formed c.args.key c.args.entry n in
    let p = ap (λ (es : List (FormKey × Formed)). table_of i.basic es i.definitions.entries) e ∙ table_push i.basic i.formed.entries i.definitions.entries x ∙ ap (λ (t : Table). more t c.args.entry.form) c.self.view_is in
    subst (λ (t : Table). Extends c.args.self.now t) (sym p) (subst (λ (t : Table). Extends t (more t c.args.entry.form)) c.self.view_is (extends_push i.basic i.formed.entries i.definitions.entries x c.self.invariant))

pub returns-in-Some-clause-open : goal.returns-in-Some-clause-open
returns-in-Some-clause-open c = λ h. (
    let i = c.self.inside in
    let l : length c.args.self.now.forms ≡ 10 + length i.formed.entries = ap (λ (t : Table). length t.forms) (sym c.self.view_is) ∙ length-forms i.basic i.formed.entries c.self.invariant.basic in
    let r = known_place i.basic i.formed.entries i.definitions.entries c.args.entry.form c.args.key (length c.args.self.now.forms) c.in-Some.index c.self.invariant c.requires.key c.requires.formed l c.in-Some.ensures.index in
    absurd (true≢false (sym (open_tagged c.args.entry.form h) ∙ r.0)))

pub returns-in_ok-insert-in-None-clause-open : goal.returns-in_ok-insert-in-None-clause-open
returns-in_ok-insert-in-None-clause-open c = λ h. (
    let i = c.self.inside in
    let x : FormKey × Formed = (c.args.key, c.args.entry) in
    let n = none_of _ c.in-None.ensures.found in
    let e = c.in_ok-insert-in-None.ensures.entries ∙ insert_entry-new _ i.formed c.args.key c.args.entry n in
    let p = ap (λ (es : List (FormKey × Formed)). table_of i.basic es i.definitions.entries) e ∙ table_push i.basic i.formed.entries i.definitions.entries x ∙ ap (λ (t : Table). more t c.args.entry.form) c.self.view_is in
    let o : AreOpen c.args.self.now c.args.self.now.completed = subst (λ (s : Table). AreOpen s s.completed) c.self.view_is (open_all (table_of i.basic i.formed.entries i.definitions.entries) i.definitions.entries c.self.invariant.defined) in
    subst (λ (t : Table). IsOpen t c.len-next.result) (sym p) (new_open c.args.self.now c.args.entry.form c.len-next.result o c.len-next.ensures h))
