use Rattle.std.proofs.Common.{◌≤◌, length, sym, ap, subst, ◌∙◌, arith}
use Rattle.std.proofs.lemmas.Option.{get_or_from_slice_get}
use Rattle.c_types.specs.declared.type_form.TypeForm.{TypeForm}
use Rattle.c_types.specs.declared.type_form.TypeForm.TheVariants as form
use Rattle.c_types.specs.Readings.{is_function}
use Rattle.c_types.specs.Table.{AreSomeBelow, IsOver, is_qualified, number_at, types}
use Rattle.c_types.proofs.Below.{not_function, some_below_more}
use Rattle.c_types.proofs.type_table.TypeTable.function_parts.Goals as goal

pub returns-in_ok-parameters-in-Function-clause-below : goal.returns-in_ok-parameters-in-Function-clause-below
returns-in_ok-parameters-in-Function-clause-below c =
    let n = length c.args.self.now.forms in
    let o = subst (λ (f : TypeForm). IsOver c.args.id f) c.in-Function.is c.form.ensures.over in
    let w = c.requires.within in
    let l : c.args.id ≤ n = omega arith in
    ((let h = o.0 in omega (arith, h, w)), subst (AreSomeBelow n) (sym c.in_ok-parameters-in-Function.ensures) (some_below_more c.args.id n l c.in-Function.parameters o.1))

pub returns-in_default : goal.returns-in_default
returns-in_default c =
    let t = c.args.self.now in
    let f = c.form.result.now in
    let q = ap is_qualified (sym (get_or_from_slice_get t.forms c.args.id f form.Void c.form.ensures.form)) ∙ c.requires.plain in
    record { some = tt; below = tt; none = ap is_function c.form.ensures.means ∙ not_function (types t) (number_at t c.args.id) f q c.in_default.not-Function }
