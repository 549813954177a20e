use Rattle.std.proofs.Common.{◌≡◌, ◌<◌, length, subst, arith}
use Rattle.std.specs.Prelude.{false, slice_get}
use Rattle.c_types.specs.Keeps.{forms_in}
use Rattle.c_types.specs.Table.{Table, basic_forms, form_at, is_qualified, type_at, type_in, types_of}
use Rattle.c_types.proofs.Insides.{before, basic_plain, basic_type_at, length-forms}
use Rattle.c_types.proofs.type_table.TypeTable.basic_type.Goals as goal

pub returns-clause-means : goal.returns-clause-means
returns-clause-means c =
    let i = c.self.inside in
    subst (λ (t : Table). type_at t c.args.place ≡ type_in (types_of basic_forms) c.args.place) c.self.view_is
    (basic_type_at i.basic i.formed.entries i.definitions.entries c.args.place c.self.invariant.basic c.requires)

pub returns-clause-within : goal.returns-clause-within
returns-clause-within c =
    let i = c.self.inside in
    subst (λ (t : Table). c.args.place < length t.forms) c.self.view_is (omega (arith, length-forms i.basic i.formed.entries c.self.invariant.basic))

pub returns-clause-form : goal.returns-clause-form
returns-clause-form c =
    let i = c.self.inside in
    subst (λ (t : Table). is_qualified (form_at t c.args.place) ≡ false) c.self.view_is
    (basic_plain i.basic i.formed.entries i.definitions.entries c.args.place c.self.invariant.basic c.requires)

pub returns-clause-known : goal.returns-clause-known
returns-clause-known c =
    let i = c.self.inside in
    subst (λ (t : Table). slice_get t.forms c.args.place ≡ slice_get basic_forms c.args.place) c.self.view_is
    (rw c.self.invariant.basic (before basic_forms (forms_in i.formed.entries) c.args.place c.requires))
