-- The place of a member by its name.
use Rattle.std.proofs.Common.{◌≡◌, ℕ, ◌+◌, ◌-◌, ◌<◌, ◌≤◌, Bool, true, false, List, [], ◌∷◌, ◌++◌, length, map, get_or, refl, sym, ap, ◌∙◌, subst, true≢false, arith}
use Rattle.std.specs.Prelude.{◌≢◌, slice_get, Some, None, Option, nat_eq, nat_lt, if◌then◌else◌}
use Rattle.std.specs.Option.{option_map}
use Rattle.std.proofs.lemmas.Option.{slice_get-get_or}
use Rattle.std.specs.Map.{lookup}
use Rattle.c_types.specs.declared.type_form.TypeForm.{TypeForm}
use Rattle.c_types.specs.declared.type_form.TypeForm.TheVariants as form
use Rattle.std.proofs.lemmas.Bool.Decides.{nat_tests}
use Rattle.c_types.specs.declared.type_form.MemberPlace.{MemberPlace}
use Rattle.c_types.specs.declared.form_key.FormKey.{FormKey}
use Rattle.c_types.specs.declared.type_table.Formed.{Formed}
use Rattle.c_types.specs.declared.definition.Definition.{Definition}
use Rattle.c_types.specs.CType.{qualify}
use Rattle.c_types.specs.Members.{member_in, member_of, member_places, places_in}
use Rattle.c_types.specs.Table.{Table, basic_forms, is_tagged, is_open_form, is_qualified, is_union, form_at, type_at, types, tags, formed, number_at, definition_of, member_seen, members_among, place_among, place_of_member, IsOver}
use Rattle.c_types.specs.Keeps.{Keeps, IsDefinition, forms_in, completed_in, place_named}
use Rattle.c_types.proofs.Insides.{before, behind, forms_in_at, basic_over, type_by_form, length-forms}
use Rattle.c_types.proofs.Defined.{AreOpen, apart, number_test, open_tagged}
use Rattle.c_types.proofs.Seen.{member_apart, member_formed, places_apart, places_formed}

first_entry : {i : ℕ} (es : List (FormKey × Formed)) → i < length es → FormKey × Formed
first_entry [] l = absurd (omega arith)
first_entry (e ∷ es) l = e

entry_over : (es : List (FormKey × Formed)) → ((i : ℕ) (e : FormKey × Formed) → slice_get es i ≡ Some e → IsOver (10 + i) e.1.form) → (i : ℕ) (f : TypeForm) → i < length es → slice_get (forms_in es) i ≡ Some f → IsOver (10 + i) f
entry_over es h i f l g =
    let d : FormKey × Formed = get_or es i (first_entry es l) in
    let e : slice_get es i ≡ Some d = slice_get-get_or es i (first_entry es l) l in
    let s : Some d.1.form ≡ Some f = sym (forms_in_at es i d e) ∙ g in
    let u : d.1.form ≡ f = cc in
    subst (IsOver (10 + i)) u (h i d e)

-- the form of each place of a table is over those before it
pub all_over : (basics : List TypeForm) (es : List (FormKey × Formed)) (ds : List (ℕ × Definition)) (t : Table) → Keeps basics es ds t → (id : ℕ) (f : TypeForm) → id < length (basics ++ forms_in es) → slice_get (basics ++ forms_in es) id ≡ Some f → IsOver id f
all_over basics es ds t k id f l g = by (nat_lt id 10) refl
  where
    by : (b : Bool) → nat_lt id 10 ≡ b → IsOver id f
    by true p =
        let a : id < 10 = grind (arith, nat_tests) in
        basic_over id f (sym (before basic_forms (forms_in es) id a) ∙ (rw k.basic at g))
    by false p =
        let a : 10 ≤ id = grind (arith, nat_tests) in
        let i : id ≡ 10 + (id - 10) = omega arith in
        let h : slice_get (forms_in es) (id - 10) ≡ Some f = sym (behind basic_forms (forms_in es) (id - 10)) ∙ ap (slice_get (basic_forms ++ forms_in es)) (sym i) ∙ (rw k.basic at g) in
        let m : id - 10 < length es = omega (arith, l, length-forms basics es k.basic) in
        subst (λ j. IsOver j f) (sym i) (entry_over es (λ i e. k.over i e) (id - 10) f m h)

-- the number of a structure or union finds its definition
pub definition_lookup : (t : Table) (ds : List (ℕ × Definition)) (id : ℕ) → AreOpen t (completed_in ds) → id < length t.forms → is_tagged (form_at t id) ≡ true →
    definition_of t (completed_in ds) (number_at t id) ≡ option_map (λ (d : Definition). record { place = id; members = d.members }) (lookup (nat_eq id) ds)
definition_lookup t [] id o l g = refl
definition_lookup t (e ∷ ds) id o l g = by (nat_eq id e.0) refl (number_test t id e.0 l g o.0 (open_tagged _ o.1)) (definition_lookup t ds id o.2 l g)
  where
    by : (b : Bool) → nat_eq id e.0 ≡ b → nat_eq (number_at t id) (number_at t e.0) ≡ nat_eq id e.0
        → definition_of t (completed_in ds) (number_at t id) ≡ option_map (λ (d : Definition). record { place = id; members = d.members }) (lookup (nat_eq id) ds)
        → definition_of t (completed_in (e ∷ ds)) (number_at t id) ≡ option_map (λ (d : Definition). record { place = id; members = d.members }) (lookup (nat_eq id) (e ∷ ds))
    by true p n rest = let i : e.0 ≡ id = grind (arith, nat_tests) in rw (n, p) (ap (λ j. Some (record { place = j; members = e.1.members })) i)
    by false p n rest = rw (n, p) rest

abbrev pub place_by_form : Table → ℕ → List ℕ → TypeForm → Option MemberPlace
place_by_form t id name f = if is_open_form f then place_among t (is_union f) (definition_of t t.completed (number_at t id)) name else None

by_form : (t : Table) (id q : ℕ) (name : List ℕ) (f : TypeForm) → is_qualified f ≡ false → place_of_member t (qualify q (formed (types t) (number_at t id) f)) name ≡ place_by_form t id name f
by_form t id q name form.Void h = refl
by_form t id q name form.Char h = refl
by_form t id q name form.SignedChar h = refl
by_form t id q name form.UnsignedChar h = refl
by_form t id q name form.Short h = refl
by_form t id q name form.UnsignedShort h = refl
by_form t id q name form.Int h = refl
by_form t id q name form.Unsigned h = refl
by_form t id q name form.Long h = refl
by_form t id q name form.UnsignedLong h = refl
by_form t id q name (form.Pointer to) h = refl
by_form t id q name (form.Array of n) h = refl
by_form t id q name (form.Function r ps m) h = refl
by_form t id q name form.Structure h = refl
by_form t id q name form.Union h = refl
by_form t id q name (form.Enumeration ms) h = refl
by_form t id q name (form.Qualified of p) h = absurd (true≢false h)

pub member_by_form : (t : Table) (id q : ℕ) (name : List ℕ) (f : TypeForm) → slice_get t.forms id ≡ Some f → IsOver id f → is_qualified f ≡ false → place_of_member t (qualify q (type_at t id)) name ≡ place_by_form t id name f
member_by_form t id q name f g o h = ap (λ z. place_of_member t (qualify q z) name) (type_by_form t id f g o) ∙ by_form t id q name f h

-- what is noted in the definition is the place; where there is no definition there is none
pub member_found : (t : Table) (ds : List (ℕ × Definition)) (id q : ℕ) (name : List ℕ) (d : Definition) → t.completed ≡ completed_in ds → AreOpen t (completed_in ds) → IsDefinition t id d → lookup (nat_eq id) ds ≡ Some d → name ≢ [] →
    IsOver id (form_at t id) → is_qualified (form_at t id) ≡ false → place_named d.places name ≡ place_of_member t (qualify q (type_at t id)) name
member_found t ds id q name d c o x l n v p =
    let g = slice_get-get_or t.forms id form.Void x.within in
    let k = definition_lookup t ds id o x.within (open_tagged (form_at t id) x.form) ∙ ap (option_map (λ (d : Definition). record { place = id; members = d.members })) l in
    x.places name n ∙ sym (member_by_form t id q name (form_at t id) g v p ∙ rw (x.form, c, k) refl)

pub member_missing : (t : Table) (ds : List (ℕ × Definition)) (id q : ℕ) (name : List ℕ) → t.completed ≡ completed_in ds → AreOpen t (completed_in ds) → id < length t.forms → lookup (nat_eq id) ds ≡ None →
    IsOver id (form_at t id) → is_qualified (form_at t id) ≡ false → None ≡ place_of_member t (qualify q (type_at t id)) name
member_missing t ds id q name c o w l v p =
    sym (member_by_form t id q name (form_at t id) (slice_get-get_or t.forms id form.Void w) v p ∙ by (is_open_form (form_at t id)) refl)
  where
    by : (b : Bool) → is_open_form (form_at t id) ≡ b → place_by_form t id name (form_at t id) ≡ None
    by true h =
        let k = definition_lookup t ds id o w (open_tagged (form_at t id) h) ∙ ap (option_map (λ (d : Definition). record { place = id; members = d.members })) l in
        rw (h, c, k) refl
    by false h = rw h refl

-- what is noted in the definition is seen as the member; where there is no definition none is seen
pub seen_found : (t : Table) (id q : ℕ) (name : List ℕ) (d : Definition) → IsDefinition t id d → name ≢ [] → IsOver id (form_at t id) → is_qualified (form_at t id) ≡ false →
    option_map (member_seen (types t)) (place_named d.places name) ≡ member_of (tags t) (qualify q (type_at t id)) name
seen_found t id q name d x n v p =
    let e = type_by_form t id (form_at t id) (slice_get-get_or t.forms id form.Void x.within) v in
    ap (option_map (member_seen (types t))) (x.places name n) ∙ x.seen name
    ∙ sym (ap (λ z. member_of (tags t) (qualify q z) name) e ∙ member_formed (tags t) (types t) (number_at t id) q name (form_at t id) p ∙ ap (λ b. if b then member_in (tags t) (number_at t id) name else None) x.form)

pub seen_missing : (t : Table) (id q : ℕ) (name : List ℕ) → AreOpen t t.completed → id < length t.forms → members_among t.completed id ≡ None → IsOver id (form_at t id) → is_qualified (form_at t id) ≡ false →
    None ≡ member_of (tags t) (qualify q (type_at t id)) name
seen_missing t id q name o w m v p =
    let e = type_by_form t id (form_at t id) (slice_get-get_or t.forms id form.Void w) v in
    sym (ap (λ z. member_of (tags t) (qualify q z) name) e ∙ member_formed (tags t) (types t) (number_at t id) q name (form_at t id) p ∙ by (is_open_form (form_at t id)) refl)
  where
    by : (b : Bool) → is_open_form (form_at t id) ≡ b → (if b then member_in (tags t) (number_at t id) name else None) ≡ None
    by true h = member_apart (tags t) (number_at t id) name (apart t t.completed id o w (open_tagged (form_at t id) h) m)
    by false h = refl

-- the same of the places of those with names
pub named_found : (t : Table) (id q : ℕ) (d : Definition) → IsDefinition t id d → IsOver id (form_at t id) → is_qualified (form_at t id) ≡ false → map (member_seen (types t)) d.named ≡ member_places (tags t) (qualify q (type_at t id))
named_found t id q d x v p =
    let e = type_by_form t id (form_at t id) (slice_get-get_or t.forms id form.Void x.within) v in
    x.named ∙ sym (ap (λ z. member_places (tags t) (qualify q z)) e ∙ places_formed (tags t) (types t) (number_at t id) q (form_at t id) p ∙ ap (λ b. if b then places_in (tags t) (number_at t id) else []) x.form)

pub named_missing : (t : Table) (id q : ℕ) → AreOpen t t.completed → id < length t.forms → members_among t.completed id ≡ None → IsOver id (form_at t id) → is_qualified (form_at t id) ≡ false → [] ≡ member_places (tags t) (qualify q (type_at t id))
named_missing t id q o w m v p =
    let e = type_by_form t id (form_at t id) (slice_get-get_or t.forms id form.Void w) v in
    sym (ap (λ z. member_places (tags t) (qualify q z)) e ∙ places_formed (tags t) (types t) (number_at t id) q (form_at t id) p ∙ by (is_open_form (form_at t id)) refl)
  where
    by : (b : Bool) → is_open_form (form_at t id) ≡ b → (if b then places_in (tags t) (number_at t id) else []) ≡ []
    by true h = places_apart (tags t) (number_at t id) (apart t t.completed id o w (open_tagged (form_at t id) h) m)
    by false h = refl
