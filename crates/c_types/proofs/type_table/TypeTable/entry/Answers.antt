use Rattle.std.proofs.Common.{◌≡◌, ◌<◌, ◌+◌, ◌-◌, ◌++◌, length, sym, subst, true≢false, arith}
use Rattle.std.specs.Prelude.{slice_get, Some}
use Rattle.c_types.specs.Table.{Table, IsOver}
use Rattle.c_types.specs.Keeps.{IsFact, forms_in}
use Rattle.c_types.proofs.Insides.{form_of_entry, length-forms, table_of}
use Rattle.c_types.proofs.type_table.TypeTable.entry.Goals as goal

pub unreachable-requires : goal.unreachable-requires
unreachable-requires c =
    let i = c.self.inside in
    let w : c.args.id < length (i.basic ++ forms_in i.formed.entries) = subst (λ (t : Table). c.args.id < length t.forms) (sym c.self.view_is) c.requires.within in
    let l : c.args.id - 10 < length i.formed.entries = omega (arith, length-forms i.basic i.formed.entries c.self.invariant.basic) in
    true≢false (sym (c.in-None.ensures.found.1 l))

pub returns-clause-form : goal.returns-clause-form
returns-clause-form c =
    let i = c.self.inside in
    let h = sym c.in-Some.ensures.entry in
    let p : c.args.id ≡ 10 + (c.args.id - 10) = omega arith in
    subst (λ (t : Table). slice_get t.forms c.args.id ≡ Some c.in-Some.formed.now.form) c.self.view_is (form_of_entry i.basic i.formed.entries (c.args.id - 10) c.args.id _ c.self.invariant.basic p h)

pub returns-clause-over : goal.returns-clause-over
returns-clause-over c =
    let h = sym c.in-Some.ensures.entry in
    let p : 10 + (c.args.id - 10) ≡ c.args.id = omega arith in
    subst (λ k. IsOver k c.in-Some.formed.now.form) p (c.self.invariant.over (c.args.id - 10) _ h)

pub returns-clause-facts : goal.returns-clause-facts
returns-clause-facts c =
    let i = c.self.inside in
    let h = sym c.in-Some.ensures.entry in
    let p : 10 + (c.args.id - 10) ≡ c.args.id = omega arith in
    let F = c.in-Some.formed.now.facts in
    subst (λ (t : Table). IsFact t c.args.id F) c.self.view_is (subst (λ k. IsFact (table_of i.basic i.formed.entries i.definitions.entries) k F) p (c.self.invariant.facts (c.args.id - 10) _ h))
