use Rattle.std.proofs.Common.{sym, ap, subst, ◌∙◌, arith}
use Rattle.std.proofs.lemmas.Option.{get_or_from_slice_get}
use Rattle.c_types.specs.declared.type_form.TypeForm.{TypeForm}
use Rattle.c_types.specs.declared.type_form.TypeForm.TheVariants as form
use Rattle.c_types.specs.Readings.{is_function}
use Rattle.c_types.specs.Table.{IsOver, is_qualified, types, number_at}
use Rattle.c_types.proofs.Below.{some_below_more, not_function}
use Rattle.c_types.proofs.type_table.TypeTable.function_of.Goals as goal

pub returns-in-Function-clause-places : goal.returns-in-Function-clause-places
returns-in-Function-clause-places c =
    let o = subst (λ (f : TypeForm). IsOver c.args.id f) c.in-Function.is c.form.ensures.over in
    some_below_more c.args.id _ (omega arith) _ o.1

pub returns-in_default : goal.returns-in_default
returns-in_default c =
    let t = c.args.self.now in
    let f = c.form.result.now in
    let q = ap is_qualified (sym (get_or_from_slice_get t.forms c.args.id f form.Void c.form.ensures.form)) ∙ c.requires.plain in
    record { some = tt; place = tt; places = tt; none = ap is_function c.form.ensures.means ∙ not_function (types t) (number_at t c.args.id) f q c.in_default.not-Function }
