use Rattle.std.proofs.Common.{◌≡◌, ◌<◌, length, sym, ap, ◌∙◌, subst, arith}
use Rattle.std.proofs.lemmas.Option.{get_or_from_slice_get}
use Rattle.c_types.specs.declared.type_form.TypeForm.TheVariants as form
use Rattle.c_types.specs.Table.{Table, form_at, is_qualified, type_at}
use Rattle.c_types.proofs.Defined.{AreOpen, open_all}
use Rattle.c_types.proofs.Insides.{table_of}
use Rattle.c_types.proofs.Told.{told}
use Rattle.c_types.proofs.type_table.TypeTable.kind_is_told.Goals as goal

pub returns : goal.returns
returns c =
    let i = c.self.inside in
    let t = c.args.self.now in
    let b = c.unqualified-base.result in
    let f = c.form-form.result.now in
    let o : AreOpen t t.completed = subst (λ (s : Table). AreOpen s s.completed) c.self.view_is (open_all (table_of i.basic i.formed.entries i.definitions.entries) i.definitions.entries c.self.invariant.defined) in
    let w : b.0 < length t.forms = omega (arith, c.unqualified-base.ensures.within, c.requires) in
    let e : form_at t b.0 ≡ f = get_or_from_slice_get t.forms b.0 f form.Void c.form-form.ensures.form in
    told t b.0 b.1.0 f (type_at t c.args.id) (type_at t b.0) o w e (ap is_qualified (sym e) ∙ c.unqualified-base.ensures.form) c.form-form.ensures.means c.unqualified-base.ensures.means
