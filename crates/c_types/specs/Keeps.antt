-- What a table of types keeps in its fields.
use Rattle.std.specs.Prelude.{◌≡◌, ◌≢◌, ◌≤◌, ◌<◌, ℕ, ◌+◌, Bool, true, false, Option, Some, List, [], ◌∷◌, length, map, slice_get, is_some}
use Rattle.std.specs.Str.{bytes_eq}
use Rattle.indexmap.specs.IndexMap.{IndexMap, get_by}
use Rattle.std.specs.Prelude.{Vec}
use Rattle.std.specs.declared.alloc.Global.{Global}
use Rattle.c_types.specs.declared.type_form.MemberPlace.{MemberPlace}
use Rattle.std.specs.Option.{option_map}
use Rattle.c_types.specs.declared.type_form.TypeForm.{TypeForm}
use Rattle.c_types.specs.declared.type_form.TypeForm.TheVariants as form
use Rattle.c_types.specs.declared.form_key.FormKey.{FormKey}
use Rattle.c_types.specs.declared.form_key.FormKey.TheVariants as key
use Rattle.c_types.specs.declared.type_table.Formed.{Formed}
use Rattle.c_types.specs.declared.type_table.Facts.{Facts}
use Rattle.c_types.specs.declared.definition.Definition.{Definition}
use Rattle.c_types.specs.Bounds.{IsBounded}
use Rattle.c_types.specs.declared.extent.Extent.{Extent}
use Rattle.c_types.specs.CType.{CType, Plain, Array, Structure, Union, qualify, depth}
use Rattle.c_types.specs.Layout.{extent_by, known, no_object}
use Rattle.c_types.specs.Members.{member_in, places_in}
use Rattle.c_types.specs.Constness.{const_known}
use Rattle.c_types.specs.Definitions.{AreComplete}
use Rattle.c_types.specs.BitFields.{have_fields}
use Rattle.c_types.specs.Table.{Table, Completed, basic_forms, type_at, types, form_at, number_at, tags, extent_at, fields_at, is_qualified, is_open_form, is_union, places_of, member_seen, IsOver, AreMembersBelow, ArePlacesBelow, are_objects}

-- the form isn't that of a basic type
abbrev pub is_formed : TypeForm → Bool
is_formed (form.Pointer to) = true
is_formed (form.Array of length) = true
is_formed (form.Function result parameters more) = true
is_formed form.Structure = true
is_formed form.Union = true
is_formed (form.Enumeration members) = true
is_formed (form.Qualified of qualifiers) = true
is_formed f = false

abbrev pub forms_in : List (FormKey × Formed) → List TypeForm
forms_in [] = []
forms_in (e ∷ es) = e.1.form ∷ forms_in es

-- what is noted under a name
abbrev pub place_named : {S : Type 0} → IndexMap (Vec ℕ Global) MemberPlace S → List ℕ → Option MemberPlace
place_named m name = get_by (λ k. bytes_eq name k.items) m

abbrev pub completed_in : List (ℕ × Definition) → List Completed
completed_in [] = []
completed_in (e ∷ es) = record { place = e.0; members = e.1.members } ∷ completed_in es

-- the key of a form at a place
abbrev pub IsFunctionKey : ℕ → Option (List ℕ) → Bool → FormKey → Type 0
IsFunctionKey result parameters more (key.Function r ps m) = (r ≡ result) × (option_map (λ v. v.items) ps ≡ parameters) × (m ≡ more)
IsFunctionKey result parameters more k = ⊥

abbrev pub IsKeyOf : ℕ → TypeForm → FormKey → Type 0
IsKeyOf place (form.Pointer to) k = k ≡ key.Pointer to
IsKeyOf place (form.Array of length) k = k ≡ key.Array of length
IsKeyOf place (form.Function result parameters more) k = IsFunctionKey result parameters more k
IsKeyOf place (form.Qualified of qualifiers) k = k ≡ key.Qualified of qualifiers.0
IsKeyOf place f k = k ≡ key.Alone place

-- the extent doesn't change when further structures are completed
abbrev pub IsSettled : (ℕ → Extent) → CType → Type 0
IsSettled known (Array of length) = is_some (extent_by known of).size ≡ true
IsSettled known (Plain qualifiers (Structure number)) = ⊥
IsSettled known (Plain qualifiers (Union number)) = ⊥
IsSettled known (Plain qualifiers kind) = Unit {0}

-- what is known of the type at a place
pub record IsFact (t : Table) (id : ℕ) (f : Facts) : Type 0 where
  pub base : f.base ≤ id
  pub plain : is_qualified (form_at t f.base) ≡ false
  pub means : type_at t id ≡ qualify f.qualifiers.0 (type_at t f.base)
  pub depth : f.depth ≡ depth (type_at t id)
  pub deep : f.depth ≤ 500
  pub bounded : IsBounded f.extent
  pub own : is_qualified (form_at t id) ≡ false → f.base ≡ id
  pub extent : is_qualified (form_at t id) ≡ false → is_open_form (form_at t id) ≡ false → extent_at t id ≡ f.extent
  pub settled : is_qualified (form_at t id) ≡ false → is_open_form (form_at t id) ≡ false → IsSettled (known (tags t)) (type_at t id)
  pub open_form : is_open_form (form_at t id) ≡ true → f.extent ≡ no_object

-- what completed the structure or union at a place
pub record IsDefinition (t : Table) (id : ℕ) (d : Definition) : Type 0 where
  pub within : id < length t.forms
  pub form : is_open_form (form_at t id) ≡ true
  pub members : AreMembersBelow (length t.forms) d.members
  pub objects : are_objects (fields_at t d.members) ≡ true
  pub extent : known (tags t) (number_at t id) ≡ d.extent
  pub complete : is_some d.extent.size ≡ true
  pub bounded : IsBounded d.extent
  pub places : (name : List ℕ) → name ≢ [] → place_named d.places name ≡ places_of (is_union (form_at t id)) (fields_at t d.members) d.members name
  pub seen : (name : List ℕ) → option_map (member_seen (types t)) (places_of (is_union (form_at t id)) (fields_at t d.members) d.members name) ≡ member_in (tags t) (number_at t id) name
  pub named : map (member_seen (types t)) d.named ≡ places_in (tags t) (number_at t id)
  pub named_below : ArePlacesBelow (length t.forms) d.named
  pub constant : const_known (tags t) (number_at t id) ≡ d.constant

pub record Keeps (basics : List TypeForm) (entries : List (FormKey × Formed)) (definitions : List (ℕ × Definition)) (t : Table) : Type 0 where
  pub basic : basics ≡ basic_forms
  pub keys : (i : ℕ) (e : FormKey × Formed) → slice_get entries i ≡ Some e → IsKeyOf (10 + i) e.1.form e.0
  pub formed : (i : ℕ) (e : FormKey × Formed) → slice_get entries i ≡ Some e → is_formed e.1.form ≡ true
  pub over : (i : ℕ) (e : FormKey × Formed) → slice_get entries i ≡ Some e → IsOver (10 + i) e.1.form
  pub facts : (i : ℕ) (e : FormKey × Formed) → slice_get entries i ≡ Some e → IsFact t (10 + i) e.1.facts
  pub defined : (i : ℕ) (e : ℕ × Definition) → slice_get definitions i ≡ Some e → IsDefinition t e.0 e.1
  pub complete : AreComplete (tags t)
  pub fields : have_fields (tags t) ≡ true
