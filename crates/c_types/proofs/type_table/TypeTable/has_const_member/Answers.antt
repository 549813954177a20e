use Rattle.std.proofs.Common.{◌≡◌, ◌<◌, length, sym, ap, subst, ◌∙◌}
use Rattle.std.specs.Prelude.{None}
use Rattle.std.specs.Option.{option_map}
use Rattle.std.proofs.lemmas.Option.{slice_get-get_or}
use Rattle.c_types.specs.declared.definition.Definition.{Definition}
use Rattle.c_types.specs.declared.type_form.TypeForm.TheVariants as form
use Rattle.c_types.specs.Table.{Table, IsOver, form_at, members_among}
use Rattle.c_types.specs.Keeps.{IsDefinition}
use Rattle.c_types.proofs.Const.{const_found, const_missing}
use Rattle.c_types.proofs.Insides.{table_of}
use Rattle.c_types.proofs.Defined.{AreOpen, open_all, found, members_found}
use Rattle.c_types.proofs.Named.{all_over}
use Rattle.c_types.proofs.type_table.TypeTable.has_const_member.Goals as goal

pub returns-in-Some : goal.returns-in-Some
returns-in-Some c =
    let i = c.self.inside in
    let t = c.args.self.now in
    let id = c.args.id in
    let d = c.in-Some.definition.now in
    let T = table_of i.basic i.formed.entries i.definitions.entries in
    let u : id < length T.forms = subst (λ (s : Table). id < length s.forms) (sym c.self.view_is) c.requires.within in
    let r = found i.definitions.entries id d (sym c.in-Some.ensures.value) in
    let x : IsDefinition t id d = subst (λ (s : Table). IsDefinition s id d) c.self.view_is (c.self.invariant.defined r.0 _ r.1) in
    let v : IsOver id (form_at t id) = subst (λ (s : Table). IsOver id (form_at s id)) c.self.view_is (all_over i.basic i.formed.entries i.definitions.entries T c.self.invariant id (form_at T id) u (slice_get-get_or T.forms id form.Void u)) in
    const_found t id d x v c.requires.plain c.requires.kind

pub returns-in-None : goal.returns-in-None
returns-in-None c =
    let i = c.self.inside in
    let t = c.args.self.now in
    let id = c.args.id in
    let T = table_of i.basic i.formed.entries i.definitions.entries in
    let u : id < length T.forms = subst (λ (s : Table). id < length s.forms) (sym c.self.view_is) c.requires.within in
    let o : AreOpen t t.completed = subst (λ (s : Table). AreOpen s s.completed) c.self.view_is (open_all T i.definitions.entries c.self.invariant.defined) in
    let m : members_among t.completed id ≡ None = subst (λ (s : Table). members_among s.completed id ≡ None) c.self.view_is (members_found i.definitions.entries id ∙ ap (option_map (λ (d : Definition). d.members)) (sym c.in-None.ensures.value)) in
    let v : IsOver id (form_at t id) = subst (λ (s : Table). IsOver id (form_at s id)) c.self.view_is (all_over i.basic i.formed.entries i.definitions.entries T c.self.invariant id (form_at T id) u (slice_get-get_or T.forms id form.Void u)) in
    const_missing t id o c.requires.within m v c.requires.plain c.requires.kind
