-- The bit-fields that structures and unions have (C89 3.5.2.1), and how they lie in their units.
use Rattle.std.proofs.Common.{refl}
use Rattle.std.specs.Prelude.{◌≡◌, ◌≤◌, ◌<◌, ℕ, zero, suc, ◌+◌, Bool, true, false, not, ◌&&◌, nat_le, Option, Some, None, List, [], ◌∷◌, codes}
use Rattle.c_types.specs.CType.{Char, CType, Plain, Simple, Int, Unsigned, basic}
use Rattle.c_types.specs.Layout.{MemberType, Tag}
use Rattle.c_types.specs.Members.{MemberAt, is_named}

-- int or unsigned int, perhaps qualified
abbrev pub is_field_type : CType → Bool
is_field_type (Plain q (Simple Int)) = true
is_field_type (Plain q (Simple Unsigned)) = true
is_field_type t = false

-- at most 32 bits, and none only without a name
abbrev pub is_field_width : List ℕ → ℕ → Bool
is_field_width name zero = not (is_named name)
is_field_width name (suc n) = nat_le (suc n) 32

abbrev pub is_field : List ℕ → CType → Option ℕ → Bool
is_field name of None = true
is_field name of (Some width) = is_field_type of && is_field_width name width

-- each member with a width is a bit-field that there may be
abbrev pub are_fields : List MemberType → Bool
are_fields [] = true
are_fields (m ∷ ms) = is_field m.name m.of m.width && are_fields ms

-- those of each definition
abbrev pub have_fields : List Tag → Bool
have_fields [] = true
have_fields (tag ∷ older) = are_fields tag.members && have_fields older

-- A member that has bits is of int or unsigned int, and its bits lie within its unit of 32.
pub record IsInUnit (m : MemberAt) : Type 0 where
  pub of : 0 < m.width → is_field_type m.of ≡ true
  pub within : m.first + m.width ≤ 32

-- ---- examples

three_bits : is_field (codes "b") (basic Unsigned) (Some 3) ≡ true
three_bits = refl

none_without_a_name : is_field [] (Plain 1 (Simple Int)) (Some 0) ≡ true
none_without_a_name = refl

none_with_a_name : is_field (codes "b") (basic Int) (Some 0) ≡ false
none_with_a_name = refl

too_many_bits : is_field (codes "b") (basic Int) (Some 33) ≡ false
too_many_bits = refl

bits_of_a_char : is_field (codes "b") (basic Char) (Some 3) ≡ false
bits_of_a_char = refl
