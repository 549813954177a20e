-- A member that definitions tell lies in its unit, where each of their bit-fields is one that there may be.
use Rattle.std.proofs.Common.{◌≡◌, ℕ, zero, suc, ◌+◌, ◌<◌, ◌≤◌, Bool, true, false, List, [], ◌∷◌, refl, subst, arith, leb-true}
use Rattle.std.specs.Prelude.{◌==◌, nat_le, Option, Some, None, if◌then◌else◌}
use Rattle.std.specs.Str.{bytes_eq}
use Rattle.c_types.specs.declared.extent.Extent.{Extent}
use Rattle.c_types.specs.BitFields.{IsInUnit, are_fields, have_fields, is_field, is_field_type, is_field_width}
use Rattle.c_types.specs.CType.{CType, Plain, Array, Structure, Union}
use Rattle.c_types.specs.Layout.{MemberType, Tag, extent_by, fields, known, next_room, spot_at, spot_in, spots, start}
use Rattle.c_types.specs.Members.{MemberAt, member_at, member_in, member_of, named, width_or_zero}
use Rattle.c_fits.proofs.lemmas.Booleans.{and_left, and_right}

-- ---- one member

pub some_member : (m n : MemberAt) → Some m ≡ Some n → m ≡ n
some_member m n e = cc

width_within : (name : List ℕ) (width : ℕ) → is_field_width name width ≡ true → width ≤ 32
width_within name zero h = omega arith
width_within name (suc n) h = leb-true (suc n) 32 h

field_within : (m : MemberType) (o : Option ℕ) → is_field m.name m.of o ≡ true → width_or_zero o ≤ 32
field_within m None h = omega arith
field_within m (Some width) h = width_within m.name width (and_right (is_field_type m.of) (is_field_width m.name width) h)

field_typed : (m : MemberType) (o : Option ℕ) → is_field m.name m.of o ≡ true → 0 < width_or_zero o → is_field_type m.of ≡ true
field_typed m None h l = absurd (omega (arith, l))
field_typed m (Some width) h l = and_left (is_field_type m.of) (is_field_width m.name width) h

spot_within : (r : _) (e : Extent) (o : Option ℕ) → width_or_zero o ≤ 32 → (spot_at r e o).first + width_or_zero o ≤ 32
spot_within r e None l = l
spot_within r e (Some width) l = by (nat_le (r.bits + width) 32) refl
  where
    by : (b : Bool) → nat_le (r.bits + width) 32 ≡ b → (spot_at r e (Some width)).first + width ≤ 32
    by true e = rw e (leb-true (r.bits + width) 32 e)
    by false e = rw e (omega (arith, l))

placed_within : (union : Bool) (r : _) (e : Extent) (o : Option ℕ) → width_or_zero o ≤ 32 → (spot_in union r e o).first + width_or_zero o ≤ 32
placed_within true r e o l = spot_within start e o l
placed_within false r e o l = spot_within r e o l

-- a member where it is laid
pub laid_in_unit : (union : Bool) (k : ℕ → Extent) (r : _) (m : MemberType) → is_field m.name m.of m.width ≡ true → IsInUnit (member_at m (spot_in union r (extent_by k m.of) m.width))
laid_in_unit union k r m f = record { of = field_typed m m.width f; within = placed_within union r (extent_by k m.of) m.width (field_within m m.width f) }

-- ---- those of definitions

named_in_unit : (union : Bool) (k : ℕ → Extent) (r : _) (ms : List MemberType) (name : List ℕ) (at : MemberAt) → are_fields ms ≡ true → named ms (spots union r (fields k ms)) name ≡ Some at → IsInUnit at
named_in_unit union k r [] name at h e = absurd (let none : ⊥ = cc in none)
named_in_unit union k r (m ∷ ms) name at h e =
    by (bytes_eq name m.name) e (named_in_unit union k (next_room union r (extent_by k m.of) m.width) ms name at (and_right (is_field m.name m.of m.width) (are_fields ms) h))
  where
    this : IsInUnit (member_at m (spot_in union r (extent_by k m.of) m.width))
    this = laid_in_unit union k r m (and_left (is_field m.name m.of m.width) (are_fields ms) h)

    by : (b : Bool) → (if b then Some (member_at m (spot_in union r (extent_by k m.of) m.width)) else named ms (spots union (next_room union r (extent_by k m.of) m.width) (fields k ms)) name) ≡ Some at
        → (named ms (spots union (next_room union r (extent_by k m.of) m.width) (fields k ms)) name ≡ Some at → IsInUnit at) → IsInUnit at
    by true e g = subst IsInUnit (some_member (member_at m (spot_in union r (extent_by k m.of) m.width)) at e) this
    by false e g = g e

numbered_in_unit : (tags : List Tag) (n : ℕ) (name : List ℕ) (at : MemberAt) → have_fields tags ≡ true → member_in tags n name ≡ Some at → IsInUnit at
numbered_in_unit [] n name at h e = absurd (let none : ⊥ = cc in none)
numbered_in_unit (tag ∷ older) n name at h e = by (n == tag.number) e (numbered_in_unit older n name at (and_right (are_fields tag.members) (have_fields older) h))
  where
    by : (b : Bool) → (if b then named tag.members (spots tag.is_union start (fields (known older) tag.members)) name else member_in older n name) ≡ Some at → (member_in older n name ≡ Some at → IsInUnit at) → IsInUnit at
    by true e g = named_in_unit tag.is_union (known older) start tag.members name at (and_left (are_fields tag.members) (have_fields older) h) e
    by false e g = g e

pub member_in_unit : (tags : List Tag) (t : CType) (name : List ℕ) (at : MemberAt) → have_fields tags ≡ true → member_of tags t name ≡ Some at → IsInUnit at
member_in_unit tags (Plain q (Structure n)) name at h e = numbered_in_unit tags n name at h e
member_in_unit tags (Plain q (Union n)) name at h e = numbered_in_unit tags n name at h e
member_in_unit tags (Plain q k) name at h e = absurd (let none : ⊥ = cc in none)
member_in_unit tags (Array of n) name at h e = absurd (let none : ⊥ = cc in none)
