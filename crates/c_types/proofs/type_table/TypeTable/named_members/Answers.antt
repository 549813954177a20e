use Rattle.std.proofs.Common.{◌≡◌, ◌<◌, length, map, sym, ap, subst, ◌∙◌, arith}
use Rattle.std.specs.Prelude.{None}
use Rattle.std.specs.Option.{option_map}
use Rattle.std.proofs.lemmas.Option.{slice_get-get_or}
use Rattle.c_types.specs.declared.type_form.TypeForm.TheVariants as form
use Rattle.c_types.specs.declared.definition.Definition.{Definition}
use Rattle.c_types.specs.Members.{member_places}
use Rattle.c_types.specs.Table.{ArePlacesBelow, Table, IsOver, form_at, member_seen, members_among, tags, types}
use Rattle.c_types.specs.Keeps.{IsDefinition}
use Rattle.c_types.proofs.Insides.{table_of}
use Rattle.c_types.proofs.Defined.{AreOpen, open_all, found, members_found}
use Rattle.c_types.proofs.Named.{all_over, named_found, named_missing}
use Rattle.c_types.proofs.type_table.TypeTable.named_members.Goals as goal

pub returns-in-Some-clause-seen : goal.returns-in-Some-clause-seen
returns-in-Some-clause-seen c =
    let i = c.self.inside in
    let t = c.args.self.now in
    let b = c.unqualified-base.result in
    let d = c.in-Some.definition.now in
    let T = table_of i.basic i.formed.entries i.definitions.entries in
    let w : b.0 < length t.forms = omega (arith, c.unqualified-base.ensures.within, c.requires) in
    let u : b.0 < length T.forms = subst (λ (s : Table). b.0 < length s.forms) (sym c.self.view_is) w in
    let r = found i.definitions.entries b.0 d (sym c.in-Some.ensures.value) in
    let x : IsDefinition t b.0 d = subst (λ (s : Table). IsDefinition s b.0 d) c.self.view_is (c.self.invariant.defined r.0 _ r.1) in
    let v : IsOver b.0 (form_at t b.0) = subst (λ (s : Table). IsOver b.0 (form_at s b.0)) c.self.view_is (all_over i.basic i.formed.entries i.definitions.entries T c.self.invariant b.0 (form_at T b.0) u (slice_get-get_or T.forms b.0 form.Void u)) in
    ap (map (member_seen (types t))) c.as_slice.ensures
    ∙ named_found t b.0 b.1.0 d x v c.unqualified-base.ensures.form
    ∙ sym (ap (member_places (tags t)) c.unqualified-base.ensures.means)

pub returns-in-Some-clause-within : goal.returns-in-Some-clause-within
returns-in-Some-clause-within c =
    let i = c.self.inside in
    let t = c.args.self.now in
    let b = c.unqualified-base.result in
    let d = c.in-Some.definition.now in
    let r = found i.definitions.entries b.0 d (sym c.in-Some.ensures.value) in
    let x : IsDefinition t b.0 d = subst (λ (s : Table). IsDefinition s b.0 d) c.self.view_is (c.self.invariant.defined r.0 _ r.1) in
    subst (ArePlacesBelow (length t.forms)) (sym c.as_slice.ensures) x.named_below

pub returns-in-None-clause-seen : goal.returns-in-None-clause-seen
returns-in-None-clause-seen c =
    let i = c.self.inside in
    let t = c.args.self.now in
    let b = c.unqualified-base.result in
    let T = table_of i.basic i.formed.entries i.definitions.entries in
    let w : b.0 < length t.forms = omega (arith, c.unqualified-base.ensures.within, c.requires) in
    let u : b.0 < length T.forms = subst (λ (s : Table). b.0 < length s.forms) (sym c.self.view_is) w in
    let o : AreOpen t t.completed = subst (λ (s : Table). AreOpen s s.completed) c.self.view_is (open_all T i.definitions.entries c.self.invariant.defined) in
    let m : members_among t.completed b.0 ≡ None = subst (λ (s : Table). members_among s.completed b.0 ≡ None) c.self.view_is (members_found i.definitions.entries b.0 ∙ ap (option_map (λ (d : Definition). d.members)) (sym c.in-None.ensures.value)) in
    let v : IsOver b.0 (form_at t b.0) = subst (λ (s : Table). IsOver b.0 (form_at s b.0)) c.self.view_is (all_over i.basic i.formed.entries i.definitions.entries T c.self.invariant b.0 (form_at T b.0) u (slice_get-get_or T.forms b.0 form.Void u)) in
    named_missing t b.0 b.1.0 o w m v c.unqualified-base.ensures.form
    ∙ sym (ap (member_places (tags t)) c.unqualified-base.ensures.means)
