use Rattle.std.proofs.Common.{List, sym, ap, ◌∙◌}
use Rattle.std.proofs.lemmas.Option.{get_or_from_slice_get}
use Rattle.c_types.specs.declared.type_form.Enumerator.{Enumerator}
use Rattle.c_types.specs.declared.type_form.TypeForm.TheVariants as form
use Rattle.c_types.specs.Table.{formed, number_at, type_at, types}
use Rattle.c_types.proofs.Bare.{basic_apart, basic_enumeration}
use Rattle.c_types.proofs.type_table.TypeTable.is_basic_compatible.Goals as goal

pub returns-in-Enumeration : goal.returns-in-Enumeration
returns-in-Enumeration c =
    let t = c.args.self.now in
    rw c.basic_type-a.ensures.is (basic_enumeration c.args.a c.requires.a (type_at t c.args.a) (type_at t c.args.b) (number_at t c.args.b) c.basic_type-a.ensures.means
    (c.form.ensures.means ∙ ap (formed (types t) (number_at t c.args.b)) c.in-Enumeration.is))

pub returns-in_default : goal.returns-in_default
returns-in_default c =
    let t = c.args.self.now in
    let i = c.self.inside in
    let e = get_or_from_slice_get t.forms c.args.b c.form.result.now form.Void c.form.ensures.form in
    sym (basic_apart i.basic i.formed.entries i.definitions.entries t c.self.invariant c.self.view_is c.args.a c.args.b c.requires.a c.requires.b c.requires.apart c.requires.bare
    (λ (ms : List Enumerator) g. c.in_default.not-Enumeration ms (sym e ∙ g)))
