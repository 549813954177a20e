use Rattle.std.proofs.Common.{◌≡◌, sym, ap, subst, ◌∙◌}
use Rattle.std.specs.Prelude.{None}
use Rattle.std.specs.Option.{option_map}
use Rattle.c_types.specs.declared.definition.Definition.{Definition}
use Rattle.c_types.specs.Layout.{known, extent_by}
use Rattle.c_types.specs.Table.{Table, basic_forms, type_in, types_of, tags, type_at, extent_at, members_among}
use Rattle.c_types.proofs.Insides.{table_of}
use Rattle.c_types.proofs.Defined.{found, members_found, AreOpen, open_all, defined_extent, own_extent}
use Rattle.c_types.proofs.type_table.TypeTable.base_extent.Goals as goal

pub returns-then-id-lt-BASIC-clause-is : goal.returns-then-id-lt-BASIC-clause-is
returns-then-id-lt-BASIC-clause-is c =
    let k = known (tags c.args.self.now) in
    let e : type_in (types_of basic_forms) c.basic_type.result ≡ type_at c.args.self.now c.args.id = rw c.basic_type.ensures.is (sym c.basic_type.ensures.means) in
    c.basic_extent.ensures.is k ∙ ap (extent_by k) e

pub returns-in-Some-clause-is : goal.returns-in-Some-clause-is
returns-in-Some-clause-is c =
    let i = c.self.inside in
    let d = c.in-Some.definition.now in
    let r = found i.definitions.entries c.args.id d (sym c.in-Some.ensures.value) in
    subst (λ (t : Table). d.extent ≡ extent_at t c.args.id) c.self.view_is
    (sym (defined_extent (table_of i.basic i.formed.entries i.definitions.entries) c.args.id d (c.self.invariant.defined r.0 _ r.1)))

pub returns-in-Some-clause-bounded : goal.returns-in-Some-clause-bounded
returns-in-Some-clause-bounded c =
    let d = c.in-Some.definition.now in
    let r = found c.self.inside.definitions.entries c.args.id d (sym c.in-Some.ensures.value) in
    (c.self.invariant.defined r.0 _ r.1).bounded

pub returns-in-None-clause-is : goal.returns-in-None-clause-is
returns-in-None-clause-is c =
    let i = c.self.inside in
    let t = c.args.self.now in
    let o : AreOpen t t.completed = subst (λ (s : Table). AreOpen s s.completed) c.self.view_is (open_all (table_of i.basic i.formed.entries i.definitions.entries) i.definitions.entries c.self.invariant.defined) in
    let m : members_among t.completed c.args.id ≡ None = subst (λ (s : Table). members_among s.completed c.args.id ≡ None) c.self.view_is (members_found i.definitions.entries c.args.id ∙ ap (option_map (λ (d : Definition). d.members)) (sym c.in-None.ensures.value)) in
    sym (own_extent t c.args.id c.entry.result.now.facts o c.requires.within c.requires.form m c.entry.ensures.facts)
