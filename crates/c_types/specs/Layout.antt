-- Sizes, alignments, member places and bit places. Each scalar is aligned to its size. Members stand in order,
-- each at the next offset that its alignment allows, and a structure's size is rounded up to its greatest
-- alignment. A bit-field goes into the current unit of 32 bits where it fits, and else opens the next unit, at
-- the next multiple of 4; width 0 closes the unit, and the member behind a run of fields begins past the unit. In a
-- union each member stands at 0.
use Rattle.std.specs.Prelude.{ℕ, ◌+◌, ◌-◌, ◌*◌, ◌/◌, Bool, true, false, nat_eq, nat_le, Option, Some, None, List, [], ◌∷◌, max, is_some, if◌then◌else◌}
use Rattle.c_types.specs.declared.extent.Extent.{Extent}
use Rattle.c_types.specs.declared.room.Room.{Room}
use Rattle.c_types.specs.declared.room.Spot.{Spot}
use Rattle.c_types.specs.CType.{Basic, Void, Char, SignedChar, UnsignedChar, Short, UnsignedShort, Int, Unsigned, Long, UnsignedLong, CType, Plain, Array, Kind, Simple, Pointer, Function, Structure, Union, Enumeration}

-- An extent has the size, None where the type is incomplete or a function; the alignment of its objects; and the
-- nesting, which of an array or complete structure is one more than the greatest of its parts, and else 1.
abbrev pub scalar : ℕ → Extent
scalar n = record { size = Some n; align = n; nesting = 1 }

abbrev pub no_object : Extent
no_object = record { size = None; align = 1; nesting = 1 }

abbrev pub basic_extent : Basic → Extent
basic_extent Void = no_object
basic_extent Char = scalar 1
basic_extent SignedChar = scalar 1
basic_extent UnsignedChar = scalar 1
basic_extent Short = scalar 2
basic_extent UnsignedShort = scalar 2
basic_extent Int = scalar 4
basic_extent Unsigned = scalar 4
basic_extent Long = scalar 4
basic_extent UnsignedLong = scalar 4

abbrev pub times : Option ℕ → Option ℕ → Option ℕ
times (Some n) (Some s) = Some (n * s)
times n s = None

abbrev pub array_extent : Option ℕ → Extent → Extent
array_extent n e = record { size = times n e.size; align = e.align; nesting = 1 + e.nesting }

-- where those of structures are known
abbrev pub kind_extent : (ℕ → Extent) → Kind → Extent
kind_extent known (Simple b) = basic_extent b
kind_extent known (Pointer to) = scalar 4
kind_extent known (Function result parameters) = no_object
kind_extent known (Structure number) = known number
kind_extent known (Union number) = known number
kind_extent known (Enumeration number) = scalar 4

abbrev pub extent_by : (ℕ → Extent) → CType → Extent
extent_by known (Plain qualifiers kind) = kind_extent known kind
extent_by known (Array of length) = array_extent length (extent_by known of)

-- what a member takes of its structure: the extent of its type, and its width where it is a bit-field
pub record Field : Type 0 where
  pub extent : Extent
  pub width : Option ℕ

abbrev pub start : Room
start = record { bytes = 0; bits = 32 }

-- A room has the bytes that are taken, and how many bits are filled of the unit that is the last four of them: 32
-- where no unit is open. A spot has the offset, and the bits of the unit that are filled before it.

-- the next multiple
abbrev pub round_up : ℕ → ℕ → ℕ
round_up n unit = (n + (unit - 1)) / unit * unit

abbrev pub size_or_zero : Option ℕ → ℕ
size_or_zero (Some n) = n
size_or_zero None = 0

-- where the next member goes: a bit-field, or any
abbrev pub bit_spot : Room → ℕ → Spot
bit_spot r width =
    if nat_le (r.bits + width) 32
    then record { offset = r.bytes - 4; first = r.bits }
    else record { offset = round_up r.bytes 4; first = 0 }

abbrev pub spot_at : Room → Extent → Option ℕ → Spot
spot_at r e None = record { offset = round_up r.bytes e.align; first = 0 }
spot_at r e (Some width) = bit_spot r width

-- what is taken with it
abbrev pub bits_after : Room → ℕ → Room
bits_after r width =
    if nat_eq width 0 then record { bytes = r.bytes; bits = 32 }
    else if nat_le (r.bits + width) 32 then record { bytes = r.bytes; bits = r.bits + width }
    else record { bytes = round_up r.bytes 4 + 4; bits = width }

abbrev pub room_after : Room → Extent → Option ℕ → Room
room_after r e None = record { bytes = round_up r.bytes e.align + size_or_zero e.size; bits = 32 }
room_after r e (Some width) = bits_after r width

-- in a union each member begins at the start, and it takes as many bytes as the largest
abbrev pub spot_in : Bool → Room → Extent → Option ℕ → Spot
spot_in true r e width = spot_at start e width
spot_in false r e width = spot_at r e width

abbrev pub next_room : Bool → Room → Extent → Option ℕ → Room
next_room true r e width = record { bytes = max r.bytes (room_after start e width).bytes; bits = 32 }
next_room false r e width = room_after r e width

abbrev pub laid : Bool → Room → List Field → Room
laid union r [] = r
laid union r (f ∷ fs) = laid union (next_room union r f.extent f.width) fs

-- the places of the members, in order
abbrev pub spots : Bool → Room → List Field → List Spot
spots union r [] = []
spots union r (f ∷ fs) = spot_in union r f.extent f.width ∷ spots union (next_room union r f.extent f.width) fs

-- a bit-field is aligned as its unit
abbrev pub field_align : Extent → Option ℕ → ℕ
field_align e None = e.align
field_align e (Some width) = 4

abbrev pub greatest_align : List Field → ℕ
greatest_align [] = 1
greatest_align (f ∷ fs) = max (field_align f.extent f.width) (greatest_align fs)

abbrev pub greatest_nesting : List Field → ℕ
greatest_nesting [] = 0
greatest_nesting (f ∷ fs) = max f.extent.nesting (greatest_nesting fs)

abbrev pub structure_extent : Bool → List Field → Extent
structure_extent union fs =
    record {
      size = Some (round_up (laid union start fs).bytes (greatest_align fs));
      align = greatest_align fs;
      nesting = 1 + greatest_nesting fs;
    }

-- a member: its name, empty where it has none, its type, and its width where it is a bit-field
pub record MemberType : Type 0 where
  pub name : List ℕ
  pub of : CType
  pub width : Option ℕ

-- what a definition gave: of which structure or union, and its members
pub record Tag : Type 0 where
  pub number : ℕ
  pub is_union : Bool
  pub members : List MemberType

abbrev pub fields : (ℕ → Extent) → List MemberType → List Field
fields known [] = []
fields known (m ∷ ms) = record { extent = extent_by known m.of; width = m.width } ∷ fields known ms

-- The extents of structures by their numbers, of those that were completed, the latest first: each by those that
-- were complete before it.
abbrev pub known : List Tag → ℕ → Extent
known [] n = no_object
known (tag ∷ older) n =
    if nat_eq n tag.number then structure_extent tag.is_union (fields (known older) tag.members) else known older n

abbrev pub extent : List Tag → CType → Extent
extent tags = extent_by (known tags)

-- the alignment of an object of the type
abbrev pub object_align : Extent → Option ℕ
object_align e = if is_some e.size then Some e.align else None
