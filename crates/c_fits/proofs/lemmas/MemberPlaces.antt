-- The members of a structure or union lie in it, where they have sizes and their bit-fields are such as there may be.
use Rattle.std.proofs.Common.{◌≡◌, ℕ, zero, suc, ◌+◌, ◌-◌, ◌<◌, ◌≤◌, Bool, true, false, not, ◌&&◌, List, [], ◌∷◌, refl, sym, ap, subst, ◌∙◌, arith, le_trans, leb-true, div-add-mod', mod-lt}
use Rattle.std.specs.Prelude.{◌==◌, nat_eq, nat_le, Option, Some, None, is_some, if◌then◌else◌}
use Rattle.std.proofs.lemmas.Bool.Decides.{nat_tests}
use Rattle.c_types.specs.declared.extent.Extent.{Extent}
use Rattle.c_types.specs.BitFields.{are_fields, is_field, is_field_type}
use Rattle.c_types.specs.CType.{Void, CType, Plain, Array, Simple, Pointer, Function, Structure, Union, Enumeration}
use Rattle.c_types.specs.Layout.{Field, MemberType, Tag, bits_after, extent, fields, greatest_align, known, laid, next_room, room_after, round_up, size_or_zero, spot_at, spot_in, spots, start, structure_extent}
use Rattle.c_types.specs.Members.{MemberAt, is_named, member_at, named_places, tag_places, width_or_zero}
use Rattle.c_meaning.specs.Types.{has_size}
use Rattle.c_fits.specs.OpenPlaces.{LiesIn}
use Rattle.c_fits.specs.Sound.{AreSized}
use Rattle.c_fits.proofs.lemmas.BitFields.{laid_in_unit}
use Rattle.c_fits.proofs.lemmas.Booleans.{never, and_left, and_right}

-- ---- alignments are above zero

align_some : (fs : List Field) → 1 ≤ greatest_align fs
align_some [] = omega arith
align_some (f ∷ fs) = let h = align_some fs in omega arith

known_aligned : (tags : List Tag) (n : ℕ) → 0 < (known tags n).align
known_aligned [] n = omega arith
known_aligned (tag ∷ older) n = by (nat_eq n tag.number) (known_aligned older n)
  where
    by : (b : Bool) → 0 < (known older n).align → 0 < (if b then structure_extent tag.is_union (fields (known older) tag.members) else known older n).align
    by true h = align_some (fields (known older) tag.members)
    by false h = h

pub aligned : (tags : List Tag) (t : CType) → 0 < (extent tags t).align
aligned tags (Plain q (Simple Void)) = omega arith
aligned tags (Plain q (Simple b)) = omega arith
aligned tags (Plain q (Pointer to)) = omega arith
aligned tags (Plain q (Function r ps)) = omega arith
aligned tags (Plain q (Structure n)) = known_aligned tags n
aligned tags (Plain q (Union n)) = known_aligned tags n
aligned tags (Plain q (Enumeration n)) = omega arith
aligned tags (Array of n) = aligned tags of

-- ---- rooms grow

above : (n unit : ℕ) → 0 < unit → n ≤ round_up n unit
above n unit l =
    let a = div-add-mod' (n + (unit - 1)) unit in
    let b = mod-lt (n + (unit - 1)) l in
    omega (arith, a, b)

bits_grow : (r : _) (w : ℕ) → (laid false r []).bytes ≤ (bits_after r w).bytes
bits_grow r w = by (nat_eq w 0) refl (nat_le (r.bits + w) 32) refl
  where
    by : (x : Bool) → nat_eq w 0 ≡ x → (y : Bool) → nat_le (r.bits + w) 32 ≡ y → (laid false r []).bytes ≤ (bits_after r w).bytes
    by true e y g = rw e (omega arith)
    by false e true g = rw (e, g) (omega arith)
    by false e false g = let h = above r.bytes 4 (omega arith) in rw (e, g) (omega (arith, h))

room_grows : (r : _) (e : Extent) (w : Option ℕ) → 0 < e.align → (laid false r []).bytes ≤ (room_after r e w).bytes
room_grows r e None l = let h = above r.bytes e.align l in omega (arith, h)
room_grows r e (Some w) l = bits_grow r w

next_grows : (union : Bool) (r : _) (e : Extent) (w : Option ℕ) → 0 < e.align → (laid false r []).bytes ≤ (next_room union r e w).bytes
next_grows true r e w l = omega arith
next_grows false r e w l = room_grows r e w l

all_grow : (tags : List Tag) (union : Bool) (r : _) (ms : List MemberType) → (laid false r []).bytes ≤ (laid union r (fields (known tags) ms)).bytes
all_grow tags union r [] = omega arith
all_grow tags union r (m ∷ ms) =
    le_trans (next_grows union r (extent tags m.of) m.width (aligned tags m.of)) (all_grow tags union (next_room union r (extent tags m.of) m.width) ms)

-- ---- a member takes its bytes from what is left

-- where a unit is open it has been taken
abbrev IsOpen : ℕ → ℕ → Type 0
IsOpen bits bytes = bits < 32 → 4 ≤ bytes

bits_open : (r : _) (w : ℕ) → IsOpen (laid false r []).bits (laid false r []).bytes → IsOpen (bits_after r w).bits (bits_after r w).bytes
bits_open r w h = by (nat_eq w 0) refl (nat_le (r.bits + w) 32) refl
  where
    less : r.bits + w < 32 → 4 ≤ r.bytes
    less l = h (omega (arith, l))

    by : (x : Bool) → nat_eq w 0 ≡ x → (y : Bool) → nat_le (r.bits + w) 32 ≡ y → IsOpen (bits_after r w).bits (bits_after r w).bytes
    by true e y g = rw e (λ l. absurd (omega (arith, l)))
    by false e true g = rw (e, g) less
    by false e false g = rw (e, g) (λ l. omega arith)

room_open : (r : _) (e : Extent) (w : Option ℕ) → IsOpen (laid false r []).bits (laid false r []).bytes → IsOpen (room_after r e w).bits (room_after r e w).bytes
room_open r e None h = λ l. absurd (omega (arith, l))
room_open r e (Some w) h = bits_open r w h

next_open : (union : Bool) (r : _) (e : Extent) (w : Option ℕ) → IsOpen (laid false r []).bits (laid false r []).bytes → IsOpen (next_room union r e w).bits (next_room union r e w).bytes
next_open true r e w h = λ l. absurd (omega (arith, l))
next_open false r e w h = room_open r e w h

start_open : IsOpen start.bits start.bytes
start_open l = absurd (omega (arith, l))

-- how many bytes a member takes: a bit-field's unit has four
abbrev taken_by : Extent → ℕ → Option ℕ
taken_by e width = if width == 0 then e.size else Some 4

abbrev Ends : Extent → ℕ → ℕ → ℕ → Type 0
Ends e width offset end = (n : ℕ) × (taken_by e width ≡ Some n) × (offset + n ≤ end)

some_bits : (w : ℕ) → (suc w == 0) ≡ false
some_bits w = grind (arith, nat_tests)

bits_end : (r : _) (e : Extent) (w : ℕ) → IsOpen (laid false r []).bits (laid false r []).bytes → (spot_at r e (Some (suc w))).offset + 4 ≤ (bits_after r (suc w)).bytes
bits_end r e w h = by (nat_le (r.bits + suc w) 32) refl
  where
    by : (y : Bool) → nat_le (r.bits + suc w) 32 ≡ y → (spot_at r e (Some (suc w))).offset + 4 ≤ (bits_after r (suc w)).bytes
    by true g = let l = leb-true (r.bits + suc w) 32 g in let k = h (omega (arith, l)) in rw (some_bits w, g) (omega (arith, k))
    by false g = rw (some_bits w, g) (omega arith)

some_is : (o : Option ℕ) → is_some o ≡ true → o ≡ Some (size_or_zero o)
some_is (Some n) h = refl
some_is None h = never (sym h)

spot_ends : (r : _) (e : Extent) (w : Option ℕ) → IsOpen (laid false r []).bits (laid false r []).bytes → is_some e.size ≡ true → (w ≡ Some 0 → ⊥) → Ends e (width_or_zero w) (spot_at r e w).offset (room_after r e w).bytes
spot_ends r e None h s z = (size_or_zero e.size, some_is e.size s, omega arith)
spot_ends r e (Some zero) h s z = absurd (z refl)
spot_ends r e (Some (suc w)) h s z = (4, rw (some_bits w), bits_end r e w h)

place_ends : (union : Bool) (r : _) (e : Extent) (w : Option ℕ) → IsOpen (laid false r []).bits (laid false r []).bytes → is_some e.size ≡ true → (w ≡ Some 0 → ⊥) → Ends e (width_or_zero w) (spot_in union r e w).offset (next_room union r e w).bytes
place_ends true r e w h s z = let x = spot_ends start e w start_open s z in (x.0, x.1, (let l = x.2 in omega (arith, l)))
place_ends false r e w h s z = spot_ends r e w h s z

-- a member with a name has bits, if it is a bit-field
named_bits : (name : List ℕ) (of : CType) (w : Option ℕ) → is_named name ≡ true → is_field name of w ≡ true → w ≡ Some 0 → ⊥
named_bits name of w n f e = by (subst (λ w. is_field name of w ≡ true) e f)
  where
    by : (is_field_type of && not (is_named name)) ≡ true → ⊥
    by h = let k = and_right (is_field_type of) (not (is_named name)) h in never (sym k ∙ ap not n)

-- ---- the members of a definition

abbrev pub AllLie : List Tag → ℕ → List MemberAt → Type 0
AllLie tags size [] = Unit {0}
AllLie tags size (m ∷ ms) = LiesIn tags size m × AllLie tags size ms

member_lies : (tags : List Tag) (union : Bool) (r : _) (m : MemberType) (size : ℕ) → IsOpen (laid false r []).bits (laid false r []).bytes → has_size tags m.of ≡ true → is_field m.name m.of m.width ≡ true → is_named m.name ≡ true
    → (next_room union r (extent tags m.of) m.width).bytes ≤ size → LiesIn tags size (member_at m (spot_in union r (extent tags m.of) m.width))
member_lies tags union r m size o s f n l =
    let e = place_ends union r (extent tags m.of) m.width o s (named_bits m.name m.of m.width n f) in
    (laid_in_unit union (known tags) r m f, (e.0, e.1, le_trans e.2 l))

laid_lie : (tags : List Tag) (union : Bool) (r : _) (ms : List MemberType) (size : ℕ) → IsOpen (laid false r []).bits (laid false r []).bytes → AreSized tags ms → are_fields ms ≡ true → (laid union r (fields (known tags) ms)).bytes ≤ size
    → AllLie tags size (named_places ms (spots union r (fields (known tags) ms)))
laid_lie tags union r [] size o s f l = tt
laid_lie tags union r (m ∷ ms) size o s f l =
    by (is_named m.name) refl
    (laid_lie tags union (next_room union r (extent tags m.of) m.width) ms size (next_open union r (extent tags m.of) m.width o) s.1 (and_right (is_field m.name m.of m.width) (are_fields ms) f) l)
  where
    by : (b : Bool) → is_named m.name ≡ b → AllLie tags size (named_places ms (spots union (next_room union r (extent tags m.of) m.width) (fields (known tags) ms)))
        → AllLie tags size (if b then member_at m (spot_in union r (extent tags m.of) m.width) ∷ named_places ms (spots union (next_room union r (extent tags m.of) m.width) (fields (known tags) ms)) else named_places ms (spots union (next_room union r (extent tags m.of) m.width) (fields (known tags) ms)))
    by false e h = h
    by true e h = (
      member_lies tags union r m size o s.0 (and_left (is_field m.name m.of m.width) (are_fields ms) f) e (le_trans (all_grow tags union (next_room union r (extent tags m.of) m.width) ms) l),
      h,
    )

-- those of a definition lie in an object of its size
pub tag_lies : (older : List Tag) (tag : Tag) (size : ℕ) → AreSized older tag.members → are_fields tag.members ≡ true → (structure_extent tag.is_union (fields (known older) tag.members)).size ≡ Some size
    → AllLie older size (tag_places older tag)
tag_lies older tag size s f e =
    laid_lie older tag.is_union start tag.members size start_open s f
    (subst (λ n. (laid tag.is_union start (fields (known older) tag.members)).bytes ≤ n) (some_size e)
    (above (laid tag.is_union start (fields (known older) tag.members)).bytes (greatest_align (fields (known older) tag.members)) (align_some (fields (known older) tag.members))))
  where
    some_size : {n m : ℕ} → Some n ≡ Some m → n ≡ m
    some_size e = cc
