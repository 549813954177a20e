-- The members of structures and unions that are initialised.
use Rattle.std.specs.Prelude.{ℕ, ◌+◌, Bool, true, false, List, []}
use Rattle.c_types.specs.CType.{CType, Plain, Array, Kind, Structure, Union}
use Rattle.c_types.specs.declared.type_form.MemberPlace.{MemberPlace}
use Rattle.c_types.specs.Layout.{Tag}
use Rattle.c_types.specs.Members.{MemberAt}
use Rattle.c_meaning.specs.Filling.{members_in}
use Rattle.c_initialisers.specs.declared.place.Place.{Place}

abbrev pub is_union_kind : Kind → Bool
is_union_kind (Union n) = true
is_union_kind k = false

abbrev pub is_union_type : CType → Bool
is_union_type (Plain q k) = is_union_kind k
is_union_type (Array of count) = false

-- those that are initialised, in an object at an offset
abbrev pub kind_members : List Tag → Kind → ℕ → List MemberAt
kind_members tags (Structure n) offset = members_in tags offset n
kind_members tags (Union n) offset = members_in tags offset n
kind_members tags k offset = []

abbrev pub type_members : List Tag → CType → ℕ → List MemberAt
type_members tags (Plain q k) offset = kind_members tags k offset
type_members tags (Array of count) offset = []

-- a member's place in an object at the offset
abbrev pub moved_place : ℕ → MemberPlace → Place
moved_place offset m =
    record { of = record { of = m.of; qualifiers = record { 0 = 0 } }; offset = offset + m.offset; first = m.first; width = m.width }
