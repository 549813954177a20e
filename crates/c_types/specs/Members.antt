-- The members of structures and unions by their names (C89 3.3.2.3) and in their order, over types as trees.
use Rattle.std.specs.Prelude.{ℕ, ◌==◌, Bool, true, false, ◌||◌, Option, Some, None, List, [], ◌∷◌, if◌then◌else◌}
use Rattle.std.specs.Str.{bytes_eq}
use Rattle.c_types.specs.CType.{CType, Plain, Array, Kind, Structure, Union, basic, Int}
use Rattle.c_types.specs.declared.room.Spot.{Spot}
use Rattle.c_types.specs.Layout.{MemberType, Tag, start, spots, fields, known}

-- a member's type and place: the offset of its bytes, or of its unit's, and its bits, as in c_types
pub record MemberAt : Type 0 where
  pub of : CType
  pub offset : ℕ
  pub first : ℕ
  pub width : ℕ

abbrev pub width_or_zero : Option ℕ → ℕ
width_or_zero (Some n) = n
width_or_zero None = 0

abbrev pub member_at : MemberType → Spot → MemberAt
member_at m spot = record { of = m.of; offset = spot.offset; first = spot.first; width = width_or_zero m.width }

-- the first of these members with this name
abbrev pub named : List MemberType → List Spot → List ℕ → Option MemberAt
named [] spots name = None
named (m ∷ ms) [] name = None
named (m ∷ ms) (spot ∷ spots) name = if bytes_eq name m.name then Some (member_at m spot) else named ms spots name

-- the member of the structure or union of this number
abbrev pub member_in : List Tag → ℕ → List ℕ → Option MemberAt
member_in [] number name = None
member_in (tag ∷ older) number name =
    if number == tag.number then named tag.members (spots tag.is_union start (fields (known older) tag.members)) name
    else member_in older number name

abbrev pub kind_member : List Tag → Kind → List ℕ → Option MemberAt
kind_member tags (Structure n) name = member_in tags n name
kind_member tags (Union n) name = member_in tags n name
kind_member tags k name = None

-- the member of a type, qualified or not; none of what is no structure or union, or is incomplete
abbrev pub member_of : List Tag → CType → List ℕ → Option MemberAt
member_of tags (Plain q k) name = kind_member tags k name
member_of tags (Array of n) name = None

abbrev pub member_or_none : Option MemberAt → MemberAt
member_or_none (Some m) = m
member_or_none None = record { of = basic Int; offset = 0; first = 0; width = 0 }

abbrev pub is_named : List ℕ → Bool
is_named [] = false
is_named (letter ∷ letters) = true

-- the places of the members with names, in order: an initialiser passes over the others (C89 3.5.7)
abbrev pub named_places : List MemberType → List Spot → List MemberAt
named_places [] spots = []
named_places (m ∷ ms) [] = []
named_places (m ∷ ms) (spot ∷ spots) = if is_named m.name then member_at m spot ∷ named_places ms spots else named_places ms spots

-- those of a definition, over what was complete before it
abbrev pub tag_places : List Tag → Tag → List MemberAt
tag_places older tag = named_places tag.members (spots tag.is_union start (fields (known older) tag.members))

-- those of the structure or union of this number
abbrev pub places_in : List Tag → ℕ → List MemberAt
places_in [] number = []
places_in (tag ∷ older) number = if number == tag.number then tag_places older tag else places_in older number

abbrev pub kind_places : List Tag → Kind → List MemberAt
kind_places tags (Structure n) = places_in tags n
kind_places tags (Union n) = places_in tags n
kind_places tags k = []

-- those of a type, qualified or not; none of what is no structure or union, or is incomplete
abbrev pub member_places : List Tag → CType → List MemberAt
member_places tags (Plain q k) = kind_places tags k
member_places tags (Array of n) = []

abbrev pub is_defined : List Tag → ℕ → Bool
is_defined [] number = false
is_defined (tag ∷ older) number = (number == tag.number) || is_defined older number
