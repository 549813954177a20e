-- What a table of types holds, and the types that its places stand for.
use Rattle.std.specs.Prelude.{◌≡◌, ◌≢◌, ◌<◌, ◌⊎◌, ℕ, ◌+◌, Bool, true, false, ◌&&◌, ◌||◌, nat_eq, nat_lt, Option, Some, None, List, [], ◌∷◌, ◌++◌, length, take, get_or, slice_get, is_some, if◌then◌else◌}
use Rattle.std.specs.Str.{bytes_eq}
use Rattle.c_types.specs.declared.type_form.TypeForm.{TypeForm}
use Rattle.c_types.specs.declared.type_form.TypeForm.TheVariants as form
use Rattle.c_types.specs.declared.type_form.Member.{Member}
use Rattle.c_types.specs.declared.type_form.MemberPlace.{MemberPlace}
use Rattle.c_types.specs.declared.type_fault.TypeFault.{TypeFault}
use Rattle.c_types.specs.declared.type_fault.TypeFault.TheVariants as fault
use Rattle.c_types.specs.CType.{Void, Char, SignedChar, UnsignedChar, Short, UnsignedShort, Int, Unsigned, Long, UnsignedLong, CType, Plain, Array, Pointer, Function, Structure, Union, Enumeration, Parameters, Open, Listed, CTypes, NoType, And, basic, qualify, unqualified, depth}
use Rattle.c_types.specs.declared.extent.Extent.{Extent}
use Rattle.c_types.specs.declared.room.Spot.{Spot}
use Rattle.c_types.specs.Layout.{Field, MemberType, Tag, start, structure_extent, spots, fields, known, extent}
use Rattle.c_types.specs.Members.{MemberAt, is_named}

-- which structure or union was completed, and with which members
pub record Completed : Type 0 where
  pub place : ℕ
  pub members : List Member

-- the forms by their places, and the definitions in their order
pub record Table : Type 0 where
  pub forms : List TypeForm
  pub completed : List Completed

-- the forms of a new table
abbrev pub basic_forms : List TypeForm
basic_forms = form.Void ∷ form.Char ∷ form.SignedChar ∷ form.UnsignedChar ∷ form.Short ∷ form.UnsignedShort ∷ form.Int ∷ form.Unsigned ∷ form.Long ∷ form.UnsignedLong ∷ []

-- the type at a place
abbrev pub type_in : List CType → ℕ → CType
type_in types id = get_or types id (basic Void)

-- parameters are unqualified in the type of their function (C89 3.5.4.3)
abbrev pub types_in : List CType → List ℕ → CTypes
types_in types [] = NoType
types_in types (id ∷ ids) = And (unqualified (type_in types id)) (types_in types ids)

abbrev pub parameters_in : List CType → Option (List ℕ) → Bool → Parameters
parameters_in types None more = Open
parameters_in types (Some ids) more = Listed (types_in types ids) more

-- the type of a form over the types that it names, and the number that it has where it is a structure, a union or
-- an enumeration
abbrev pub formed : List CType → ℕ → TypeForm → CType
formed types number form.Void = basic Void
formed types number form.Char = basic Char
formed types number form.SignedChar = basic SignedChar
formed types number form.UnsignedChar = basic UnsignedChar
formed types number form.Short = basic Short
formed types number form.UnsignedShort = basic UnsignedShort
formed types number form.Int = basic Int
formed types number form.Unsigned = basic Unsigned
formed types number form.Long = basic Long
formed types number form.UnsignedLong = basic UnsignedLong
formed types number (form.Pointer to) = Plain 0 (Pointer (type_in types to))
formed types number (form.Array of length) = Array (type_in types of) length
formed types number (form.Function result parameters more) = Plain 0 (Function (type_in types result) (parameters_in types parameters more))
formed types number form.Structure = Plain 0 (Structure number)
formed types number form.Union = Plain 0 (Union number)
formed types number (form.Enumeration members) = Plain 0 (Enumeration number)
formed types number (form.Qualified of qualifiers) = qualify qualifiers.0 (type_in types of)

-- a structure, a union or an enumeration is a type by itself
abbrev pub is_tagged : TypeForm → Bool
is_tagged form.Structure = true
is_tagged form.Union = true
is_tagged (form.Enumeration members) = true
is_tagged f = false

abbrev pub is_union : TypeForm → Bool
is_union form.Union = true
is_union f = false

abbrev pub counted : TypeForm → ℕ
counted f = if is_tagged f then 1 else 0

-- how many structures, unions and enumerations there are
abbrev pub tagged : List TypeForm → ℕ
tagged [] = 0
tagged (f ∷ fs) = counted f + tagged fs

-- each form over the types before it, structures, unions and enumerations numbered in order
abbrev pub types_after : List CType → ℕ → List TypeForm → List CType
types_after types number [] = types
types_after types number (f ∷ fs) = types_after (types ++ formed types number f ∷ []) (number + counted f) fs

-- the types of a list of forms
abbrev pub types_of : List TypeForm → List CType
types_of = types_after [] 0

abbrev pub types : Table → List CType
types t = types_of t.forms

abbrev pub type_at : Table → ℕ → CType
type_at t id = type_in (types t) id

abbrev pub form_at : Table → ℕ → TypeForm
form_at t id = get_or t.forms id form.Void

-- how many structures, unions and enumerations stand before a place
abbrev pub number_at : Table → ℕ → ℕ
number_at t id = tagged (take id t.forms)

abbrev pub member_types : List CType → List Member → List MemberType
member_types types [] = []
member_types types (m ∷ ms) = record { name = m.name; of = type_in types m.of; width = m.width } ∷ member_types types ms

abbrev pub tag_of : Table → Completed → Tag
tag_of t c = record { number = number_at t c.place; is_union = is_union (form_at t c.place); members = member_types (types t) c.members }

abbrev pub tags_of : Table → List Completed → List Tag
tags_of t [] = []
tags_of t (c ∷ cs) = tags_of t cs ++ tag_of t c ∷ []

-- the definitions of a table, the latest first
abbrev pub tags : Table → List Tag
tags t = tags_of t t.completed

abbrev pub extent_at : Table → ℕ → Extent
extent_at t id = extent (tags t) (type_at t id)

abbrev pub is_qualified : TypeForm → Bool
is_qualified (form.Qualified of qualifiers) = true
is_qualified f = false

abbrev pub members_among : List Completed → ℕ → Option (List Member)
members_among [] id = None
members_among (c ∷ cs) id = if nat_eq id c.place then Some c.members else members_among cs id

-- the members of a completed structure or union
abbrev pub members_at : Table → ℕ → Option (List Member)
members_at t id = members_among t.completed id

abbrev pub AreBelow : ℕ → List ℕ → Type 0
AreBelow n [] = Unit {0}
AreBelow n (id ∷ ids) = (id < n) × AreBelow n ids

abbrev pub AreSomeBelow : ℕ → Option (List ℕ) → Type 0
AreSomeBelow n None = Unit {0}
AreSomeBelow n (Some ids) = AreBelow n ids

-- the places that a form names are below this one
abbrev pub IsOver : ℕ → TypeForm → Type 0
IsOver n (form.Pointer to) = to < n
IsOver n (form.Array of length) = of < n
IsOver n (form.Function result parameters more) = (result < n) × AreSomeBelow n parameters
IsOver n (form.Qualified of qualifiers) = of < n
IsOver n f = Unit {0}

abbrev pub AreMembersBelow : ℕ → List Member → Type 0
AreMembersBelow n [] = Unit {0}
AreMembersBelow n (m ∷ ms) = (m.of < n) × AreMembersBelow n ms

-- the types of members' places are below this one
abbrev pub ArePlacesBelow : ℕ → List MemberPlace → Type 0
ArePlacesBelow n [] = Unit {0}
ArePlacesBelow n (p ∷ ps) = (p.of < n) × ArePlacesBelow n ps

-- The form has this place from now on: it had it before, or it is new and goes last. A structure, union or
-- enumeration is always new, and another form only where it has no place yet.
abbrev pub IsNew : Table → TypeForm → Type 0
IsNew t f = is_tagged f ≡ false → (id : ℕ) → slice_get t.forms id ≢ Some f

abbrev pub Adds : Table → TypeForm → ℕ → Table → Type 0
Adds old f id new =
    ((is_tagged f ≡ false) × (slice_get old.forms id ≡ Some f) × (new ≡ old))
    ⊎ (IsNew old f × (id ≡ length old.forms) × (new ≡ record { forms = old.forms ++ f ∷ []; completed = old.completed }))

abbrev pub is_above : Option ℕ → Bool
is_above (Some n) = nat_lt 16777216 n
is_above None = false

-- what a type passes: its size before its depth and nesting
abbrev pub excess : ℕ → Extent → Option TypeFault
excess deep e =
    if is_above e.size then Some fault.TooLarge
    else if nat_lt 500 deep || nat_lt 500 e.nesting then Some fault.TooDeep
    else None

-- an array's element is an object
abbrev pub element_fault : Table → TypeForm → Option TypeFault
element_fault t (form.Array of length) = if is_some (extent_at t of).size then None else Some fault.Incomplete
element_fault t f = None

abbrev pub or_else : Option TypeFault → Option TypeFault → Option TypeFault
or_else (Some f) g = Some f
or_else None g = g

abbrev pub excess_of : List Tag → CType → Option TypeFault
excess_of tags t = excess (depth t) (extent tags t)

-- why the form is refused, want of memory apart
abbrev pub form_refusal : Table → TypeForm → Option TypeFault
form_refusal t f = or_else (element_fault t f) (excess_of (tags t) (formed (types t) (tagged t.forms) f))

abbrev pub fields_at : Table → List Member → List Field
fields_at t ms = fields (known (tags t)) (member_types (types t) ms)

abbrev pub are_objects : List Field → Bool
are_objects [] = true
are_objects (f ∷ fs) = is_some f.extent.size && are_objects fs

-- why the members are refused, want of memory apart
abbrev pub members_refusal : Table → ℕ → List Member → Option TypeFault
members_refusal t id ms =
    if are_objects (fields_at t ms) then excess 1 (structure_extent (is_union (form_at t id)) (fields_at t ms))
    else Some fault.Incomplete

-- a structure or union without members so far
abbrev pub is_open_form : TypeForm → Bool
is_open_form form.Structure = true
is_open_form form.Union = true
is_open_form f = false

pub record IsOpen (t : Table) (id : ℕ) : Type 0 where
  pub within : id < length t.forms
  pub form : is_open_form (form_at t id) ≡ true
  pub members : members_at t id ≡ None

-- The later table extends the earlier one: it keeps the forms at their places, the types and the definitions, and
-- what is known of complete structures.
pub record Extends (old new : Table) : Type 0 where
  pub forms : (more : List TypeForm) × (new.forms ≡ old.forms ++ more)
  pub completed : (newer : List Completed) × (new.completed ≡ old.completed ++ newer)
  pub types_stay : (id : ℕ) → id < length old.forms → type_at new id ≡ type_at old id
  pub tags_stay : (newer : List Tag) × (tags new ≡ newer ++ tags old)
  pub sizes_stay : (number : ℕ) → is_some (known (tags old) number).size ≡ true → known (tags new) number ≡ known (tags old) number

-- The later table holds more forms, of which none is a structure, a union or an enumeration, and else is the same.
pub record Grows (old new : Table) : Type 0 where
  pub extends : Extends old new
  pub completed : new.completed ≡ old.completed
  pub tags_same : tags new ≡ tags old
  pub count_same : tagged new.forms ≡ tagged old.forms

abbrev pub width_or_zero : Option ℕ → ℕ
width_or_zero None = 0
width_or_zero (Some n) = n

abbrev pub place_at : Member → Spot → MemberPlace
place_at m s = record { of = m.of; offset = s.offset; first = s.first; width = width_or_zero m.width }

-- the place of the first member with this name
abbrev pub placed : List Member → List Spot → List ℕ → Option MemberPlace
placed [] spots name = None
placed (m ∷ ms) [] name = None
placed (m ∷ ms) (s ∷ spots) name =
    if bytes_eq name m.name then Some (place_at m s) else placed ms spots name

abbrev pub places_of : Bool → List Field → List Member → List ℕ → Option MemberPlace
places_of union fs ms name = placed ms (spots union start fs) name

-- the member's place, where the member has a name
abbrev pub listed : List ℕ → MemberPlace → List MemberPlace
listed name p = if is_named name then p ∷ [] else []

-- the places of the members with names, in order
abbrev pub all_placed : List Member → List Spot → List MemberPlace
all_placed [] spots = []
all_placed (m ∷ ms) [] = []
all_placed (m ∷ ms) (s ∷ spots) = listed m.name (place_at m s) ++ all_placed ms spots

abbrev pub place_among : Table → Bool → Option Completed → List ℕ → Option MemberPlace
place_among t union None name = None
place_among t union (Some c) name = places_of union (fields_at t c.members) c.members name

-- what completed the structure or union of a number
abbrev pub definition_of : Table → List Completed → ℕ → Option Completed
definition_of t [] number = None
definition_of t (c ∷ cs) number = if nat_eq number (number_at t c.place) then Some c else definition_of t cs number

-- the place of a member of a structure or union, qualified or not
abbrev pub place_of_member : Table → CType → List ℕ → Option MemberPlace
place_of_member t (Plain qualifiers (Structure number)) name = place_among t false (definition_of t t.completed number) name
place_of_member t (Plain qualifiers (Union number)) name = place_among t true (definition_of t t.completed number) name
place_of_member t other name = None

-- a member's place, and the type that stands at its type's
abbrev pub member_seen : List CType → MemberPlace → MemberAt
member_seen types p = record { of = type_in types p.of; offset = p.offset; first = p.first; width = p.width }

abbrev pub list_or_none : Option (List Member) → List Member
list_or_none None = []
list_or_none (Some ms) = ms

abbrev pub IsRefusal : Option TypeFault → TypeFault → Type 0
IsRefusal refusal e = e ≢ fault.Memory → refusal ≡ Some e
