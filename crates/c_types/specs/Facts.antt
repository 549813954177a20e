-- What the functions of the table's insides ensure.
use Rattle.std.specs.Prelude.{◌≡◌, ◌≢◌, ◌≤◌, ◌<◌, ℕ, Bool, true, false, Option, Some, None, List, [], ◌∷◌, length, All, is_some, if◌then◌else◌}
use Rattle.std.specs.Option.{option_map}
use Rattle.std.specs.Str.{bytes_eq}
use Rattle.std.specs.Prelude.{Vec}
use Rattle.std.specs.declared.alloc.Global.{Global}
use Rattle.c_types.specs.declared.composite.FunctionParts.{FunctionParts}
use Rattle.c_types.specs.declared.type_form.TypeForm.{TypeForm}
use Rattle.c_types.specs.declared.type_form.Member.{Member}
use Rattle.c_types.specs.declared.type_form.MemberPlace.{MemberPlace}
use Rattle.c_types.specs.declared.type_table.Facts.{Facts}
use Rattle.c_types.specs.declared.extent.Extent.{Extent}
use Rattle.c_types.specs.declared.layout.Laying.{Laying}
use Rattle.c_types.specs.Bounds.{IsBounded}
use Rattle.c_types.specs.CType.{CType, Plain, Array, Function, CTypes, NoType, And, kind_of, qualify, depth}
use Rattle.c_types.specs.Compatible.{all_compatible, compatible, kind_compatible}
use Rattle.c_types.specs.Composite.{composite}
use Rattle.c_types.specs.Layout.{Field, start, laid, spots, greatest_align, greatest_nesting, extent, extent_by, known, no_object}
use Rattle.c_types.specs.Table.{Table, AreSomeBelow, formed, parameters_in, tagged, tags, types, types_in, type_at, form_at, is_qualified, is_open_form, all_placed, places_of}
use Rattle.c_types.specs.Keeps.{IsSettled, is_formed, place_named}

-- the type of a form that is added
abbrev pub type_of : Table → TypeForm → CType
type_of t f = formed (types t) (tagged t.forms) f

-- what will be known of the type of a form
pub record IsFactOf (t : Table) (f : TypeForm) (x : Facts) : Type 0 where
  pub own : is_qualified f ≡ false → (x.base ≡ length t.forms) × (x.qualifiers.0 ≡ 0)
  pub other : is_qualified f ≡ true → (x.base < length t.forms) × (is_qualified (form_at t x.base) ≡ false) × (type_of t f ≡ qualify x.qualifiers.0 (type_at t x.base))
  pub depth : x.depth ≡ depth (type_of t f)
  pub deep : x.depth ≤ 500
  pub bounded : IsBounded x.extent
  pub extent : is_formed f ≡ true → is_qualified f ≡ false → is_open_form f ≡ false → extent (tags t) (type_of t f) ≡ x.extent
  pub open_form : is_open_form f ≡ true → x.extent ≡ no_object
  pub settled : is_formed f ≡ true → is_qualified f ≡ false → is_open_form f ≡ false → IsSettled (known (tags t)) (type_of t f)

-- the first place that is known, or the other
abbrev pub or_place : Option MemberPlace → Option MemberPlace → Option MemberPlace
or_place (Some p) q = Some p
or_place None q = q

-- with a member's place under its name, where none has the name
abbrev pub noted : List ℕ → MemberPlace → List ℕ → Option MemberPlace → Option MemberPlace
noted name p asked known = or_place known (if bytes_eq asked name then Some p else None)

-- the members of a structure or union laid in order
pub record IsLaid (l : Laying) (kind : Bool) (fs : List Field) (ms : List Member) : Type 0 where
  pub union : l.is_union ≡ kind
  pub room : l.room ≡ laid kind start fs
  pub bytes : l.room.bytes ≤ 16777216
  pub align : l.align ≡ greatest_align fs
  pub within : (0 < l.align) × (l.align ≤ 4)
  pub nesting : l.nesting ≡ greatest_nesting fs
  pub shallow : l.nesting ≤ 500
  pub places : (name : List ℕ) → name ≢ [] → place_named l.places name ≡ places_of kind fs ms name
  pub named : l.named ≡ all_placed ms (spots kind start fs)

-- the extents of members' types are those of types in a table
abbrev pub AreBounded : List Field → Type 0
AreBounded [] = Unit {0}
AreBounded (f ∷ fs) = IsBounded f.extent × AreBounded fs

abbrev pub items_of : Option (Vec ℕ Global) → Option (List ℕ)
items_of o = option_map (λ v. v.items) o

-- what a function is formed from, and its type
abbrev pub function_of : Table → FunctionParts → CType
function_of t f = Plain 0 (Function (type_at t f.result) (parameters_in (types t) (items_of f.parameters) f.more))

abbrev pub ArePartsBelow : ℕ → FunctionParts → Type 0
ArePartsBelow n f = (f.result < n) × AreSomeBelow n (items_of f.parameters)

-- whether `...` stands behind the parameters of one that lists them, of the first where both do
abbrev pub more_of : Option (Vec ℕ Global) → Bool → Bool → Bool
more_of None m n = n
more_of (Some v) m n = m

-- the composite with the first of a list, if there is one
abbrev pub first_composite : CType → CTypes → CType
first_composite s NoType = s
first_composite s (And u us) = composite s u

-- the types at a pair of places are compatible under equal qualifiers
abbrev pub IsFound : Table → ℕ × ℕ → Type 0
IsFound t p = kind_compatible (kind_of (type_at t p.0)) (type_at t p.1) ≡ true

-- what was made of two types, by their places, is their composite
pub record IsMade (t : Table) (e : (ℕ × ℕ) × ℕ) : Type 0 where
  pub first : e.0.0 < length t.forms
  pub second : e.0.1 < length t.forms
  pub within : e.1 < length t.forms
  pub means : type_at t e.1 ≡ composite (type_at t e.0.0) (type_at t e.0.1)

pub record AreMade (t : Table) (es : List ((ℕ × ℕ) × ℕ)) : Type 0 where
  pub all : All (IsMade t) es

-- an array is of objects
abbrev pub IsOfObjects : (ℕ → Extent) → CType → Type 0
IsOfObjects known (Array of length) = is_some (extent_by known of).size ≡ true
IsOfObjects known (Plain qualifiers kind) = Unit {0}

-- the type keeps the limits, where extents are known
pub record IsWithin (known : ℕ → Extent) (s : CType) : Type 0 where
  pub shallow : depth s ≤ 500
  pub bounded : IsBounded (extent_by known s)
  pub objects : IsOfObjects known s

-- two lists of parameters, where both are there, agree in number and types
abbrev pub AreListsCompatible : Table → Option (List ℕ) → Option (List ℕ) → Type 0
AreListsCompatible t None b = Unit {0}
AreListsCompatible t (Some a) None = Unit {0}
AreListsCompatible t (Some a) (Some b) = all_compatible (types_in (types t) a) (types_in (types t) b) ≡ true

-- compatible with the first of a list, if there is one
abbrev pub first_compatible : CType → CTypes → Bool
first_compatible s NoType = true
first_compatible s (And u us) = compatible s u
