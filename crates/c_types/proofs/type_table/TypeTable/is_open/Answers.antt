use Rattle.std.proofs.Common.{◌≡◌, sym, ap, ◌∙◌, subst, true, false, true≢false}
use Rattle.std.proofs.lemmas.Option.{get_or_from_slice_get}
use Rattle.c_types.specs.declared.type_form.TypeForm.TheVariants as form
use Rattle.c_types.specs.Table.{Table, form_at, is_open_form}
use Rattle.c_types.proofs.Defined.{AreOpen, open_all}
use Rattle.c_types.proofs.Insides.{table_of}
use Rattle.c_types.proofs.Opening.{open_number, open_test}
use Rattle.c_types.proofs.type_table.TypeTable.is_open.Goals as goal

pub returns-then-is_open_form : goal.returns-then-is_open_form
returns-then-is_open_form c =
    let t = c.args.self.now in
    let i = c.self.inside in
    let e = get_or_from_slice_get t.forms c.args.id c.form.result.now form.Void c.form.ensures.form in
    let f : is_open_form (form_at t c.args.id) ≡ true = ap is_open_form e ∙ sym c.is_open_form.ensures ∙ c.if-is_open_form.true in
    let v = ap (λ (s : Table). s.completed) (sym c.self.view_is) in
    let o : AreOpen t t.completed = subst (λ (s : Table). AreOpen s s.completed) c.self.view_is (open_all (table_of i.basic i.formed.entries i.definitions.entries) i.definitions.entries c.self.invariant.defined) in
    record {
      is = open_test t i.definitions.entries c.args.id v c.requires f c.contains_key.result c.contains_key.ensures;
      defined = λ h. open_number t i.definitions.entries c.args.id v o c.requires f c.contains_key.result c.contains_key.ensures;
    }

pub returns-else-is_open_form : goal.returns-else-is_open_form
returns-else-is_open_form c =
    let t = c.args.self.now in
    let e = get_or_from_slice_get t.forms c.args.id c.form.result.now form.Void c.form.ensures.form in
    let f : is_open_form (form_at t c.args.id) ≡ false = ap is_open_form e ∙ sym c.is_open_form.ensures ∙ c.if-is_open_form.false in
    rw c.if-is_open_form.false
    (record {
      is = ((λ h. absurd (true≢false (sym h))), (λ o. absurd (true≢false (sym o.form ∙ f))));
      defined = λ h. absurd (true≢false (sym h ∙ f));
    })
