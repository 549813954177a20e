use Rattle.std.proofs.Common.{◌≡◌, ◌∷◌, ◌++◌, [], List, ℕ, length, true, sym, ap, subst, ◌∙◌}
use Rattle.std.specs.Prelude.{None}
use Rattle.indexmap.proofs.CallerLemmas.{insert_entry-new}
use Rattle.c_types.specs.declared.definition.Definition.{Definition}
use Rattle.c_types.specs.declared.type_form.Member.{Member}
use Rattle.c_types.specs.Table.{Table, Completed, AreMembersBelow, Extends, IsOpen, fields_at, form_at, is_union, member_types, members_refusal, tags, types}
use Rattle.c_types.specs.BitFields.{are_fields}
use Rattle.c_types.specs.Constness.{const_known, some_const}
use Rattle.c_types.specs.Keeps.{Keeps, IsDefinition}
use Rattle.c_types.specs.Facts.{IsLaid}
use Rattle.c_types.proofs.Insides.{table_of}
use Rattle.c_types.proofs.Stays.{tags_completed, with}
use Rattle.c_types.proofs.Completing.{defined_now, extends_completed, extent_laid, keeps_completed, no_definition, table_with}
use Rattle.c_types.proofs.type_table.TypeTable.complete.Goals.{Joined-branch-3}
use Rattle.c_types.proofs.type_table.TypeTable.complete.Goals as goal

abbrev definition : Joined-branch-3 → Definition
definition c = record { members = c.args.members; places = c.into_places-places.result.0; named = c.into_places-places.result.1; extent = c.extent-extent.result; constant = c.some_const-constant.result }

abbrev open_before : (c : Joined-branch-3) → IsOpen (table_of c.self.inside.basic c.self.inside.formed.entries c.self.inside.definitions.entries) c.args.id
open_before c = subst (λ (t : Table). IsOpen t c.args.id) (sym c.self.view_is) c.requires.id

accepted : (c : Joined-branch-3) → members_refusal (table_of c.self.inside.basic c.self.inside.formed.entries c.self.inside.definitions.entries) c.args.id c.args.members ≡ None
accepted c = subst (λ (t : Table). members_refusal t c.args.id c.args.members ≡ None) (sym c.self.view_is) (subst (λ (xs : List Member). members_refusal c.args.self.now c.args.id xs ≡ None) c.as_slice-list.ensures c.in_ok-laying.ensures.accepted)

entries : (c : Joined-branch-3) → c.insert.new.self.entries ≡ c.self.inside.definitions.entries ++ (c.args.id, definition c) ∷ []
entries c =
    let ds = c.self.inside.definitions.entries in
    let n = no_definition ds c.args.id (open_before c).members in
    c.in_ok-insert.ensures.entries ∙ insert_entry-new _ c.self.inside.definitions c.args.id (definition c) n

defined : (c : Joined-branch-3) → IsDefinition (with (table_of c.self.inside.basic c.self.inside.formed.entries c.self.inside.definitions.entries) (record { place = c.args.id; members = c.args.members })) c.args.id (definition c)
defined c =
    let i = c.self.inside in
    let T = table_of i.basic i.formed.entries i.definitions.entries in
    let id = c.args.id in
    let ms = c.args.members in
    let l = c.in_ok-laying.laying in
    let m : AreMembersBelow (length T.forms) ms = subst (λ (t : Table). AreMembersBelow (length t.forms) ms) (sym c.self.view_is) c.requires.members in
    let h : IsLaid l (is_union (form_at T id)) (fields_at T ms) ms =
    subst (λ (t : Table). IsLaid l (is_union (form_at t id)) (fields_at t ms) ms) (sym c.self.view_is)
    (subst (λ (xs : List Member). IsLaid l (is_union (form_at c.args.self.now id)) (fields_at c.args.self.now xs) xs) c.as_slice-list.ensures c.in_ok-laying.ensures.ok) in
    let x = extent_laid l (is_union (form_at T id)) (fields_at T ms) ms c.extent-extent.result h c.extent-extent.ensures.size c.extent-extent.ensures.align c.extent-extent.ensures.nesting in
    let s : c.some_const-constant.result ≡ some_const (const_known (tags T)) (member_types (types T) ms) =
    subst (λ (t : Table). c.some_const-constant.result ≡ some_const (const_known (tags t)) (member_types (types t) ms)) (sym c.self.view_is)
    (subst (λ (xs : List Member). c.some_const-constant.result ≡ some_const (const_known (tags c.args.self.now)) (member_types (types c.args.self.now) xs)) c.as_slice-list.ensures c.some_const-constant.ensures) in
    defined_now i.basic i.formed.entries i.definitions.entries id (definition c) c.self.invariant (open_before c) m (accepted c) l h x c.into_places-places.ensures.places c.into_places-places.ensures.named s

view : (c : Joined-branch-3) → table_of c.self.inside.basic c.self.inside.formed.entries c.insert.new.self.entries ≡ with c.args.self.now (record { place = c.args.id; members = c.args.members })
view c =
    let i = c.self.inside in
    ap (λ (ds : List (ℕ × Definition)). table_of i.basic i.formed.entries ds) (entries c) ∙ table_with i.basic i.formed.entries i.definitions.entries c.args.id (definition c)
    ∙ ap (λ (t : Table). with t (record { place = c.args.id; members = c.args.members })) c.self.view_is

pub invariant_of-self-2 : goal.invariant_of-self-2
invariant_of-self-2 c =
    let i = c.self.inside in
    subst (λ (ds : List (ℕ × Definition)). Keeps i.basic i.formed.entries ds (table_of i.basic i.formed.entries ds)) (sym (entries c))
    (keeps_completed i.basic i.formed.entries i.definitions.entries c.args.id (definition c) c.self.invariant (open_before c) (accepted c)
    (subst (λ (t : Table). are_fields (member_types (types t) c.args.members) ≡ true) (sym c.self.view_is) c.requires.fields) (defined c))

pub returns-clause-accepted : goal.returns-clause-accepted
returns-clause-accepted c = subst (λ (xs : List Member). members_refusal c.args.self.now c.args.id xs ≡ None) c.as_slice-list.ensures c.in_ok-laying.ensures.accepted

pub returns-clause-completed : goal.returns-clause-completed
returns-clause-completed c = view c

pub returns-clause-tags : goal.returns-clause-tags
returns-clause-tags c = ap tags (view c) ∙ tags_completed c.args.self.now (record { place = c.args.id; members = c.args.members })

pub returns-clause-extends : goal.returns-clause-extends
returns-clause-extends c =
    let i = c.self.inside in
    let k : Completed = record { place = c.args.id; members = c.args.members } in
    subst (λ (t : Table). Extends c.args.self.now t) (sym (view c))
    (subst (λ (t : Table). Extends t (with t k)) c.self.view_is
    (extends_completed i.basic i.formed.entries i.definitions.entries c.args.id (definition c) c.self.invariant (open_before c)))
