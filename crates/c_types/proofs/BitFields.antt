-- Bit-fields that lie in their units: one member, the members of a definition, and those of a table.
use Rattle.std.proofs.Common.{◌≡◌, ℕ, zero, suc, ◌+◌, ◌-◌, ◌<◌, ◌≤◌, Bool, true, false, List, [], ◌∷◌, refl, sym, subst, arith}
use Rattle.std.specs.Prelude.{◌==◌, nat_le, All, IfSome, Option, Some, None, if◌then◌else◌}
use Rattle.std.specs.Str.{bytes_eq}
use Rattle.std.proofs.lemmas.List.Elements.{All-cons, All-nil}
use Rattle.std.proofs.lemmas.Bool.Decides.{nat_tests}
use Rattle.c_types.specs.declared.extent.Extent.{Extent}
use Rattle.c_types.specs.declared.room.Room.{Room}
use Rattle.c_types.specs.declared.room.Spot.{Spot}
use Rattle.c_types.specs.CType.{CType, Plain, Array, Simple, Pointer, Function, Structure, Union, Enumeration}
use Rattle.c_types.specs.BitFields.{IsInUnit, are_fields, have_fields, is_field, is_field_type, is_field_width}
use Rattle.c_types.specs.Layout.{MemberType, Tag, bit_spot, extent_by, fields, known, next_room, round_up, spot_at, spot_in, spots, start}
use Rattle.c_types.specs.Members.{MemberAt, is_named, member_at, member_in, member_of, member_places, named, named_places, places_in, width_or_zero}
use Rattle.c_types.proofs.Known.{and_left, and_right}

-- what holds of both holds of either
either : {A : Type 0} (P : A → Type 0) (b : Bool) (x y : A) → P x → P y → P (if b then x else y)
either P true x y h k = h
either P false x y h k = k

-- ---- one member

abbrev first_of : Spot → ℕ
first_of s = s.first

bits_within : (r : Room) (width : ℕ) → width ≤ 32 → (bit_spot r width).first + width ≤ 32
bits_within r width l = by (nat_le (r.bits + width) 32) refl
  where
    by : (b : Bool) → nat_le (r.bits + width) 32 ≡ b → first_of (if b then record { offset = r.bytes - 4; first = r.bits } else record { offset = round_up r.bytes 4; first = 0 }) + width ≤ 32
    by true p = grind (arith, nat_tests)
    by false p = omega (arith, l)

spot_within : (r : Room) (e : Extent) (o : Option ℕ) → width_or_zero o ≤ 32 → (spot_at r e o).first + width_or_zero o ≤ 32
spot_within r e None l = l
spot_within r e (Some width) l = bits_within r width l

width_within : (name : List ℕ) (width : ℕ) → is_field_width name width ≡ true → width ≤ 32
width_within name zero h = omega arith
width_within name (suc n) h = grind (arith, nat_tests)

option_within : (name : List ℕ) (of : CType) (o : Option ℕ) → is_field name of o ≡ true → width_or_zero o ≤ 32
option_within name of None h = omega arith
option_within name of (Some width) h = width_within name width (and_right (is_field_type of) (is_field_width name width) h)

option_typed : (name : List ℕ) (of : CType) (o : Option ℕ) → is_field name of o ≡ true → 0 < width_or_zero o → is_field_type of ≡ true
option_typed name of None h l = absurd (omega (arith, l))
option_typed name of (Some width) h l = and_left (is_field_type of) (is_field_width name width) h

room_in : (union : Bool) (r : Room) → (q : Room) × ((e : Extent) (o : Option ℕ) → spot_in union r e o ≡ spot_at q e o)
room_in true r = (start, λ e o. refl)
room_in false r = (r, λ e o. refl)

one_in_unit : (union : Bool) (r : Room) (e : Extent) (m : MemberType) → is_field m.name m.of m.width ≡ true → IsInUnit (member_at m (spot_in union r e m.width))
one_in_unit union r e m h =
    let q = room_in union r in
    let l = option_within m.name m.of m.width h in
    record {
      of = option_typed m.name m.of m.width h;
      within = subst (λ s. s.first + width_or_zero m.width ≤ 32) (sym (q.1 e m.width)) (spot_within q.0 e m.width l);
    }

-- ---- the members of a definition

named_in_unit : (union : Bool) (k : ℕ → Extent) (r : Room) (ms : List MemberType) (name : List ℕ) → are_fields ms ≡ true → IfSome (named ms (spots union r (fields k ms)) name) IsInUnit
named_in_unit union k r [] name h = tt
named_in_unit union k r (m ∷ ms) name h =
    let e = extent_by k m.of in
    let q = next_room union r e m.width in
    either (λ (o : Option MemberAt). IfSome o IsInUnit) (bytes_eq name m.name) (Some (member_at m (spot_in union r e m.width))) (named ms (spots union q (fields k ms)) name)
    (one_in_unit union r e m (and_left (is_field m.name m.of m.width) (are_fields ms) h)) (named_in_unit union k q ms name (and_right (is_field m.name m.of m.width) (are_fields ms) h))

all_in_units : (union : Bool) (k : ℕ → Extent) (r : Room) (ms : List MemberType) → are_fields ms ≡ true → All IsInUnit (named_places ms (spots union r (fields k ms)))
all_in_units union k r [] h = All-nil IsInUnit
all_in_units union k r (m ∷ ms) h =
    let e = extent_by k m.of in
    let q = next_room union r e m.width in
    let x = member_at m (spot_in union r e m.width) in
    let xs = named_places ms (spots union q (fields k ms)) in
    let all = all_in_units union k q ms (and_right (is_field m.name m.of m.width) (are_fields ms) h) in
    either (All IsInUnit) (is_named m.name) (x ∷ xs) xs (All-cons IsInUnit x xs (one_in_unit union r e m (and_left (is_field m.name m.of m.width) (are_fields ms) h)) all) all

-- ---- the members of a table

member_in_unit : (tags : List Tag) (n : ℕ) (name : List ℕ) → have_fields tags ≡ true → IfSome (member_in tags n name) IsInUnit
member_in_unit [] n name h = tt
member_in_unit (tag ∷ older) n name h =
    either (λ (o : Option MemberAt). IfSome o IsInUnit) (n == tag.number) (named tag.members (spots tag.is_union start (fields (known older) tag.members)) name) (member_in older n name)
    (named_in_unit tag.is_union (known older) start tag.members name (and_left (are_fields tag.members) (have_fields older) h))
    (member_in_unit older n name (and_right (are_fields tag.members) (have_fields older) h))

places_in_units : (tags : List Tag) (n : ℕ) → have_fields tags ≡ true → All IsInUnit (places_in tags n)
places_in_units [] n h = All-nil IsInUnit
places_in_units (tag ∷ older) n h =
    either (All IsInUnit) (n == tag.number) (named_places tag.members (spots tag.is_union start (fields (known older) tag.members))) (places_in older n)
    (all_in_units tag.is_union (known older) start tag.members (and_left (are_fields tag.members) (have_fields older) h))
    (places_in_units older n (and_right (are_fields tag.members) (have_fields older) h))

type_in_unit : (tags : List Tag) (s : CType) (name : List ℕ) → have_fields tags ≡ true → IfSome (member_of tags s name) IsInUnit
type_in_unit tags (Plain q (Structure n)) name h = member_in_unit tags n name h
type_in_unit tags (Plain q (Union n)) name h = member_in_unit tags n name h
type_in_unit tags (Plain q (Simple b)) name h = tt
type_in_unit tags (Plain q (Pointer to)) name h = tt
type_in_unit tags (Plain q (Function r ps)) name h = tt
type_in_unit tags (Plain q (Enumeration n)) name h = tt
type_in_unit tags (Array of n) name h = tt

pub told_in_unit : (tags : List Tag) (s : CType) (name : List ℕ) (m : MemberAt) → have_fields tags ≡ true → member_of tags s name ≡ Some m → IsInUnit m
told_in_unit tags s name m h e = subst (λ (o : Option MemberAt). IfSome o IsInUnit) e (type_in_unit tags s name h)

pub places_told : (tags : List Tag) (s : CType) → have_fields tags ≡ true → All IsInUnit (member_places tags s)
places_told tags (Plain q (Structure n)) h = places_in_units tags n h
places_told tags (Plain q (Union n)) h = places_in_units tags n h
places_told tags (Plain q (Simple b)) h = All-nil IsInUnit
places_told tags (Plain q (Pointer to)) h = All-nil IsInUnit
places_told tags (Plain q (Function r ps)) h = All-nil IsInUnit
places_told tags (Plain q (Enumeration n)) h = All-nil IsInUnit
places_told tags (Array of n) h = All-nil IsInUnit
