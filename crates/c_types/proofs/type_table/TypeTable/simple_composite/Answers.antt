use Rattle.std.proofs.Common.{◌≡◌, List, false, sym, ap, ◌∙◌, eq-eqb, ne_eqb}
use Rattle.std.specs.Prelude.{◌&&◌}
use Rattle.std.proofs.lemmas.Option.{get_or_from_slice_get}
use Rattle.c_types.specs.declared.type_form.TypeForm.TheVariants as form
use Rattle.c_types.specs.declared.type_form.Enumerator.{Enumerator}
use Rattle.c_types.specs.Readings.{is_enumeration}
use Rattle.c_types.specs.Table.{formed, is_qualified, number_at, type_at, types}
use Rattle.c_types.proofs.Alike.{and_false}
use Rattle.c_types.proofs.Bare.{bare_at, int_place, is_int_type}
use Rattle.c_types.proofs.Composed.{enumeration_first, no_enumeration, other_first}
use Rattle.c_types.proofs.type_table.TypeTable.simple_composite.Goals as goal

pub returns-then-x-ne-INT-clause-means : goal.returns-then-x-ne-INT-clause-means
returns-then-x-ne-INT-clause-means c =
    let i = c.self.inside in
    let t = c.args.self.now in
    let p = int_place i.basic i.formed.entries i.definitions.entries t c.self.invariant c.self.view_is c.args.x c.requires.x c.requires.plain in
    let h : is_int_type (type_at t c.args.x) ≡ false = p ∙ ne_eqb c.args.x 6 c.if-x-ne-INT.true in
    other_first (type_at t c.args.x) (type_at t c.args.y) c.requires.array c.requires.pointer c.requires.function (ap (λ b. b && is_enumeration (type_at t c.args.y)) h)

pub returns-in-Enumeration-clause-means : goal.returns-in-Enumeration-clause-means
returns-in-Enumeration-clause-means c =
    let i = c.self.inside in
    let t = c.args.self.now in
    let p = int_place i.basic i.formed.entries i.definitions.entries t c.self.invariant c.self.view_is c.args.x c.requires.x c.requires.plain in
    let b = bare_at i.basic i.formed.entries i.definitions.entries t c.self.invariant c.self.view_is c.args.x c.requires.x c.requires.plain in
    let e = c.form.ensures.means ∙ ap (formed (types t) (number_at t c.args.y)) c.in-Enumeration.is in
    enumeration_first (type_at t c.args.x) (type_at t c.args.y) (number_at t c.args.y) (p ∙ eq-eqb c.args.x 6 c.if-x-ne-INT.false) b e

pub returns-in_default : goal.returns-in_default
returns-in_default c =
    let t = c.args.self.now in
    let e = get_or_from_slice_get t.forms c.args.y c.form.result.now form.Void c.form.ensures.form in
    let n = ap is_enumeration c.form.ensures.means ∙ no_enumeration (types t) (number_at t c.args.y) c.form.result.now (ap is_qualified (sym e) ∙ c.requires.bare) (λ (ms : List Enumerator) g. c.in_default.not-Enumeration ms g) in
    record {
      means = other_first (type_at t c.args.x) (type_at t c.args.y) c.requires.array c.requires.pointer c.requires.function (ap (λ b. is_int_type (type_at t c.args.x) && b) n ∙ and_false (is_int_type (type_at t c.args.x)));
      within = c.requires.x;
    }
