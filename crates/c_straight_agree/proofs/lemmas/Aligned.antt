-- Each type is aligned as a scalar is.
use Rattle.std.specs.Prelude.{◌≡◌, ℕ, nat_eq, Bool, true, false, Option, Some, None, max, List, [], ◌∷◌, if◌then◌else◌}
use Rattle.std.proofs.Common.{refl, sym, subst, inl, inr}
use Rattle.c_types.specs.CType.{Basic, Void, Char, SignedChar, UnsignedChar, Short, UnsignedShort, Int, Unsigned, Long, UnsignedLong, CType, Plain, Array, Kind, Simple, Pointer, Function, Structure, Union, Enumeration}
use Rattle.c_types.specs.declared.extent.Extent.{Extent}
use Rattle.c_types.specs.Layout.{Tag, MemberType, basic_extent, kind_extent, extent_by, field_align, greatest_align, fields, structure_extent, known}
use Rattle.c_runs.specs.Places.{align_of}
use Rattle.c_match.specs.Held.{IsAlignment}

one_is : IsAlignment 1
one_is = inl refl

two_is : IsAlignment 2
two_is = inr (inl refl)

four_is : IsAlignment 4
four_is = inr (inr refl)

basic_aligned : (b : Basic) → IsAlignment (basic_extent b).align
basic_aligned Void = one_is
basic_aligned Char = one_is
basic_aligned SignedChar = one_is
basic_aligned UnsignedChar = one_is
basic_aligned Short = two_is
basic_aligned UnsignedShort = two_is
basic_aligned Int = four_is
basic_aligned Unsigned = four_is
basic_aligned Long = four_is
basic_aligned UnsignedLong = four_is

pair : (m n a b : ℕ) → a ≡ m → b ≡ n → IsAlignment (max m n) → IsAlignment (max a b)
pair m n a b p q h = subst (λ (z : ℕ). IsAlignment (max z b)) (sym p) (subst (λ (z : ℕ). IsAlignment (max m z)) (sym q) h)

greater : (a b : ℕ) → IsAlignment a → IsAlignment b → IsAlignment (max a b)
greater a b (inl p) (inl q) = pair 1 1 a b p q one_is
greater a b (inl p) (inr (inl q)) = pair 1 2 a b p q two_is
greater a b (inl p) (inr (inr q)) = pair 1 4 a b p q four_is
greater a b (inr (inl p)) (inl q) = pair 2 1 a b p q two_is
greater a b (inr (inl p)) (inr (inl q)) = pair 2 2 a b p q two_is
greater a b (inr (inl p)) (inr (inr q)) = pair 2 4 a b p q four_is
greater a b (inr (inr p)) (inl q) = pair 4 1 a b p q four_is
greater a b (inr (inr p)) (inr (inl q)) = pair 4 2 a b p q four_is
greater a b (inr (inr p)) (inr (inr q)) = pair 4 4 a b p q four_is

module _ (of : ℕ → Extent) (all : (n : ℕ) → IsAlignment (of n).align) where
  kind_aligned : (k : Kind) → IsAlignment (kind_extent of k).align
  kind_aligned (Simple b) = basic_aligned b
  kind_aligned (Pointer to) = four_is
  kind_aligned (Function result parameters) = one_is
  kind_aligned (Structure number) = all number
  kind_aligned (Union number) = all number
  kind_aligned (Enumeration number) = four_is

  type_aligned : (t : CType) → IsAlignment (extent_by of t).align
  type_aligned (Plain q k) = kind_aligned k
  type_aligned (Array t n) = type_aligned t

  field_aligned : (t : CType) (width : Option ℕ) → IsAlignment (field_align (extent_by of t) width)
  field_aligned t None = type_aligned t
  field_aligned t (Some width) = four_is

  greatest_aligned : (ms : List MemberType) → IsAlignment (greatest_align (fields of ms))
  greatest_aligned [] = one_is
  greatest_aligned (m ∷ ms) = greater (field_align (extent_by of m.of) m.width) (greatest_align (fields of ms)) (field_aligned m.of m.width) (greatest_aligned ms)

tags_aligned : (tags : List Tag) (n : ℕ) → IsAlignment (known tags n).align
tags_aligned [] n = one_is
tags_aligned (tag ∷ older) n = by (nat_eq n tag.number) (greatest_aligned (known older) (λ m. tags_aligned older m) tag.members) (tags_aligned older n)
  where
    by : (b : Bool) → IsAlignment (greatest_align (fields (known older) tag.members)) → IsAlignment (known older n).align → IsAlignment (if b then structure_extent tag.is_union (fields (known older) tag.members) else known older n).align
    by true x y = x
    by false x y = y

pub types_are_aligned : (tags : List Tag) (t : CType) → IsAlignment (align_of tags t)
types_are_aligned tags t = type_aligned (known tags) (tags_aligned tags) t
