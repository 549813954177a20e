use Rattle.std.proofs.Common.{List, sym, ap, ◌∙◌}
use Rattle.std.proofs.lemmas.Option.{get_or_from_slice_get}
use Rattle.c_types.specs.declared.type_form.Enumerator.{Enumerator}
use Rattle.c_types.specs.declared.type_form.TypeForm.TheVariants as form
use Rattle.c_types.specs.Table.{formed, number_at, types}
use Rattle.c_types.proofs.Bare.{enumeration_apart, tag_apart}
use Rattle.c_types.proofs.type_table.TypeTable.is_tag_compatible.Goals as goal

pub returns-in-Enumeration : goal.returns-in-Enumeration
returns-in-Enumeration c =
    let t = c.args.self.now in
    let i = c.self.inside in
    enumeration_apart i.basic i.formed.entries i.definitions.entries t c.self.invariant c.self.view_is c.args.a c.args.b c.requires.a c.requires.tag c.requires.b c.requires.apart c.requires.bare
    (c.form.ensures.means ∙ ap (formed (types t) (number_at t c.args.a)) c.in-Enumeration.is)

pub returns-in_default : goal.returns-in_default
returns-in_default c =
    let t = c.args.self.now in
    let i = c.self.inside in
    let e = get_or_from_slice_get t.forms c.args.a c.form.result.now form.Void c.form.ensures.form in
    sym (tag_apart i.basic i.formed.entries i.definitions.entries t c.self.invariant c.self.view_is c.args.a c.args.b c.requires.a c.requires.tag c.requires.b c.requires.apart c.requires.bare
    (λ (ms : List Enumerator) g. c.in_default.not-Enumeration ms (sym e ∙ g)))
