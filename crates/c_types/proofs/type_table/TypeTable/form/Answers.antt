use Rattle.std.proofs.Common.{◌≡◌, ◌<◌, length, refl, sym, subst, ◌∙◌}
use Rattle.std.specs.Prelude.{slice_get, Some}
use Rattle.std.proofs.lemmas.Option.{slice_get_read}
use Rattle.c_types.specs.Table.{Table, formed, types, number_at, type_at}
use Rattle.c_types.specs.Keeps.{forms_in}
use Rattle.c_types.proofs.Insides.{before, basic_over, table_of, type_by_form}
use Rattle.c_types.proofs.type_table.TypeTable.form.Goals as goal

pub returns-then-id-lt-BASIC-clause-means : goal.returns-then-id-lt-BASIC-clause-means
returns-then-id-lt-BASIC-clause-means c =
    let i = c.self.inside in
    let x = c.index-self-id.result in
    let T = table_of i.basic i.formed.entries i.definitions.entries in
    let l : c.args.id < length i.basic = rw c.self.invariant.basic c.if-id-lt-BASIC.true in
    let g : slice_get i.basic c.args.id ≡ Some x = slice_get_read i.basic (length i.basic) c.args.id x refl l c.index-self-id.is in
    let o = basic_over c.args.id x (rw c.self.invariant.basic at g) in
    let h : type_at T c.args.id ≡ formed (types T) (number_at T c.args.id) x = type_by_form T c.args.id x (before i.basic (forms_in i.formed.entries) c.args.id l ∙ g) o in
    rw (sym c.index-self-id.is) (subst (λ (t : Table). type_at t c.args.id ≡ formed (types t) (number_at t c.args.id) x) c.self.view_is h)

pub returns-else-id-lt-BASIC-clause-means : goal.returns-else-id-lt-BASIC-clause-means
returns-else-id-lt-BASIC-clause-means c = type_by_form c.args.self.now c.args.id c.entry.result.now.form c.entry.ensures.form c.entry.ensures.over
