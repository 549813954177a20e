-- What the definitions of a table keep, as the search for a place needs it: parts of an object are the same over
-- all definitions as over those that were complete before its type, and are nested less than it.
use Rattle.std.proofs.Common.{◌≡◌, ℕ, ◌+◌, ◌*◌, ◌<◌, Bool, true, false, List, [], ◌∷◌, refl, sym, ap, ◌∙◌, true≢false, arith}
use Rattle.std.specs.Prelude.{Option, Some, None, map, is_some, ◌==◌, ◌&&◌, if◌then◌else◌}
use Rattle.std.proofs.lemmas.Bool.{eqb-true}
use Rattle.c_types.specs.declared.extent.Extent.{Extent}
use Rattle.c_types.specs.CType.{Basic, Void, Char, SignedChar, UnsignedChar, Short, UnsignedShort, Int, Unsigned, Long, UnsignedLong, CType, Plain, Array, Kind, Simple, Pointer, Function, Structure, Union, Enumeration}
use Rattle.c_types.specs.Layout.{MemberType, Tag, basic_extent, extent, known, times, fields, spots, start, structure_extent, greatest_nesting, size_or_zero}
use Rattle.c_types.specs.Members.{MemberAt, is_named, member_at, named_places, tag_places}
use Rattle.c_types.specs.Table.{are_objects}
use Rattle.c_meaning.specs.Filling.{element, enter, enter_by, entered_known, entered_kind, elements_behind, fills, first_member, first_only, found, is_none_left, members_in, members_of, moved_to, or_else, place_of, with_left, Whole}
use Rattle.c_meaning.specs.Types.{is_array}
use Rattle.c_meaning.specs.Values.{CoreTree}
use Rattle.c_types.specs.Definitions.{AreComplete}
use Rattle.c_initialisers.specs.Members.{type_members}

-- ---- what is known of a structure or union stays

both_left : (a b : Bool) → (a && b) ≡ true → a ≡ true
both_left true b h = refl
both_left false b h = h

both_right : (a b : Bool) → (a && b) ≡ true → b ≡ true
both_right true b h = h
both_right false b h = absurd (true≢false (sym h))

element_some : (n s : Option ℕ) → is_some (times n s) ≡ true → is_some s ≡ true
element_some (Some n) (Some s) h = refl
element_some (Some n) None h = h
element_some None s h = absurd (true≢false (sym h))

-- a further definition is of another number than what is complete
pub apart : (tag : Tag) (older : List Tag) (n : ℕ) → is_some (known older tag.number).size ≡ false → is_some (known older n).size ≡ true → (n == tag.number) ≡ false
apart tag older n f h = by (n == tag.number) refl
  where
    by : (b : Bool) → (n == tag.number) ≡ b → b ≡ false
    by false e = refl
    by true e = absurd (true≢false (sym h ∙ ap (λ k. is_some (known older k).size) (eqb-true n tag.number e) ∙ f))

known_stays : (tag : Tag) (older : List Tag) (n : ℕ) → is_some (known older tag.number).size ≡ false → is_some (known older n).size ≡ true → known (tag ∷ older) n ≡ known older n
known_stays tag older n f h = ap (λ b. if b then structure_extent tag.is_union (fields (known older) tag.members) else known older n) (apart tag older n f h)

extent_stays : (tag : Tag) (older : List Tag) → is_some (known older tag.number).size ≡ false → (t : CType) → is_some (extent older t).size ≡ true → extent (tag ∷ older) t ≡ extent older t
extent_stays tag older f (Plain q (Simple b)) h = refl
extent_stays tag older f (Plain q (Pointer to)) h = refl
extent_stays tag older f (Plain q (Function r ps)) h = refl
extent_stays tag older f (Plain q (Structure n)) h = known_stays tag older n f h
extent_stays tag older f (Plain q (Union n)) h = known_stays tag older n f h
extent_stays tag older f (Plain q (Enumeration n)) h = refl
extent_stays tag older f (Array t n) h = rw (extent_stays tag older f t (element_some n (extent older t).size h)) refl

-- ---- each type is nested once at least

basic_nested : (b : Basic) → 0 < (basic_extent b).nesting
basic_nested Void = omega arith
basic_nested Char = omega arith
basic_nested SignedChar = omega arith
basic_nested UnsignedChar = omega arith
basic_nested Short = omega arith
basic_nested UnsignedShort = omega arith
basic_nested Int = omega arith
basic_nested Unsigned = omega arith
basic_nested Long = omega arith
basic_nested UnsignedLong = omega arith

known_nested : (tags : List Tag) (n : ℕ) → 0 < (known tags n).nesting
known_nested [] n = omega arith
known_nested (tag ∷ older) n = by (n == tag.number) (known_nested older n)
  where
    by : (b : Bool) → 0 < (known older n).nesting → 0 < (if b then structure_extent tag.is_union (fields (known older) tag.members) else known older n).nesting
    by true h = omega arith
    by false h = h

pub nested_once : (tags : List Tag) (t : CType) → 0 < (extent tags t).nesting
nested_once tags (Plain q (Simple b)) = basic_nested b
nested_once tags (Plain q (Pointer to)) = omega arith
nested_once tags (Plain q (Function r ps)) = omega arith
nested_once tags (Plain q (Structure n)) = known_nested tags n
nested_once tags (Plain q (Union n)) = known_nested tags n
nested_once tags (Plain q (Enumeration n)) = omega arith
nested_once tags (Array of count) = omega arith

-- ---- members are objects, and nested less than so much

abbrev pub AreParts : List Tag → ℕ → List MemberAt → Type 0
AreParts tags n [] = Unit {0}
AreParts tags n (m ∷ ms) = (is_some (extent tags m.of).size ≡ true) × ((extent tags m.of).nesting < n) × AreParts tags n ms

parts_stay : (tag : Tag) (older : List Tag) → is_some (known older tag.number).size ≡ false → (n : ℕ) (ms : List MemberAt) → AreParts older n ms → AreParts (tag ∷ older) n ms
parts_stay tag older f n [] h = tt
parts_stay tag older f n (m ∷ ms) h =
    let e = extent_stays tag older f m.of h.0 in
    (ap (λ (x : Extent). is_some x.size) e ∙ h.0, omega (arith, h.1, ap (λ (x : Extent). x.nesting) e), parts_stay tag older f n ms h.2)

parts_first : (tags : List Tag) (n : ℕ) (only : Bool) (ms : List MemberAt) → AreParts tags n ms → AreParts tags n (first_only only ms)
parts_first tags n true [] h = h
parts_first tags n true (m ∷ ms) h = (h.0, h.1, tt)
parts_first tags n false ms h = h

parts_if : (tags : List Tag) (n offset : ℕ) (b : Bool) (m : MemberAt) (ms : List MemberAt) → is_some (extent tags m.of).size ≡ true → (extent tags m.of).nesting < n → AreParts tags n (map (moved_to offset) ms) → AreParts tags n (map (moved_to offset) (if b then m ∷ ms else ms))
parts_if tags n offset true m ms s l h = (s, l, h)
parts_if tags n offset false m ms s l h = h

parts_at : (tags : List Tag) (n offset : ℕ) (ms : List MemberType) (spots : _) → are_objects (fields (known tags) ms) ≡ true → greatest_nesting (fields (known tags) ms) < n → AreParts tags n (map (moved_to offset) (named_places ms spots))
parts_at tags n offset [] spots o l = tt
parts_at tags n offset (m ∷ ms) [] o l = tt
parts_at tags n offset (m ∷ ms) (s ∷ spots) o l =
    parts_if tags n offset (is_named m.name) (member_at m s) (named_places ms spots)
    (both_left (is_some (extent tags m.of).size) (are_objects (fields (known tags) ms)) o)
    (omega arith)
    (parts_at tags n offset ms spots (both_right (is_some (extent tags m.of).size) (are_objects (fields (known tags) ms)) o) (omega arith))

parts_of : (older : List Tag) (tag : Tag) (offset : ℕ) → are_objects (fields (known older) tag.members) ≡ true → AreParts older (structure_extent tag.is_union (fields (known older) tag.members)).nesting (members_of older tag offset)
parts_of older tag offset o =
    let n = (structure_extent tag.is_union (fields (known older) tag.members)).nesting in
    parts_first older n tag.is_union (map (moved_to offset) (tag_places older tag)) (parts_at older n offset tag.members (spots tag.is_union start (fields (known older) tag.members)) o (omega arith))

parts_in : (tags : List Tag) → AreComplete tags → (offset number : ℕ) → AreParts tags (known tags number).nesting (members_in tags offset number)
parts_in [] h offset number = tt
parts_in (tag ∷ older) h offset number = by (number == tag.number) (parts_in older h.2 offset number)
  where
    by : (b : Bool) → AreParts older (known older number).nesting (members_in older offset number) → AreParts (tag ∷ older) (if b then structure_extent tag.is_union (fields (known older) tag.members) else known older number).nesting (if b then members_of older tag offset else members_in older offset number)
    by true k = parts_stay tag older h.0 (structure_extent tag.is_union (fields (known older) tag.members)).nesting (members_of older tag offset) (parts_of older tag offset h.1)
    by false k = parts_stay tag older h.0 (known older number).nesting (members_in older offset number) k

pub type_parts : (tags : List Tag) → AreComplete tags → (t : CType) (offset : ℕ) → AreParts tags (extent tags t).nesting (type_members tags t offset)
type_parts tags h (Plain q (Simple b)) offset = tt
type_parts tags h (Plain q (Pointer to)) offset = tt
type_parts tags h (Plain q (Function r ps)) offset = tt
type_parts tags h (Plain q (Structure n)) offset = parts_in tags h offset n
type_parts tags h (Plain q (Union n)) offset = parts_in tags h offset n
type_parts tags h (Plain q (Enumeration n)) offset = tt
type_parts tags h (Array of count) offset = tt

-- ---- the search in an object is the same when further structures are complete

module _ (tag : Tag) (older : List Tag) (fresh : is_some (known older tag.number).size ≡ false) (c : CoreTree) where
  abbrev all : List Tag
  all = tag ∷ older

  search_stays : (q : ℕ) (k : Kind) (at : MemberAt) → entered_kind (entered_known older c) k at.offset ≡ entered_kind (entered_known all c) k at.offset → enter_by older (entered_known older c) c (Plain q k) at ≡ enter_by all (entered_known all c) c (Plain q k) at
  search_stays q k at e = ap (λ o. if fills (Plain q k) c then Some (found at []) else o) e

  numbered : (n offset : ℕ) → is_some (known older n).size ≡ true → entered_known older c n offset ≡ entered_known all c n offset
  numbered n offset h = sym (ap (λ b. if b then first_member (λ m. enter_by older (entered_known older c) c m.of m) (members_of older tag offset) else entered_known older c n offset) (apart tag older n fresh h))

  enter_stays : (t : CType) (at : MemberAt) → is_some (extent older t).size ≡ true → enter_by older (entered_known older c) c t at ≡ enter_by all (entered_known all c) c t at
  enter_stays (Plain q (Simple b)) at h = refl
  enter_stays (Plain q (Pointer to)) at h = refl
  enter_stays (Plain q (Function r ps)) at h = refl
  enter_stays (Plain q (Structure n)) at h = search_stays q (Structure n) at (numbered n at.offset h)
  enter_stays (Plain q (Union n)) at h = search_stays q (Union n) at (numbered n at.offset h)
  enter_stays (Plain q (Enumeration n)) at h = refl
  enter_stays (Array of count) at h =
      let s = element_some count (extent older of).size h in
      let e : element older of at.offset 0 ≡ element all of at.offset 0 = ap (λ (x : Extent). place_of of (at.offset + 0 * size_or_zero x.size)) (sym (extent_stays tag older fresh of s)) in
      ap (λ o. if fills (Array of count) c then Some (found at []) else if is_none_left count then None else with_left (elements_behind of at.offset 0 count) o)
      (enter_stays of (element older of at.offset 0) s ∙ ap (enter_by all (entered_known all c) c of) e)

  first_stays : (n : ℕ) (ms : List MemberAt) → AreParts older n ms → first_member (enter older c) ms ≡ first_member (enter all c) ms
  first_stays n [] h = refl
  first_stays n (m ∷ ms) h =
      ap (λ o. or_else (with_left (map Whole ms) o) (first_member (enter older c) ms)) (enter_stays m.of m h.0)
      ∙ ap (or_else (with_left (map Whole ms) (enter all c m))) (first_stays n ms h.2)

entered_members : (tags : List Tag) → AreComplete tags → (c : CoreTree) (number offset : ℕ) → entered_known tags c number offset ≡ first_member (enter tags c) (members_in tags offset number)
entered_members [] h c number offset = refl
entered_members (tag ∷ older) h c number offset = by (number == tag.number) (entered_members older h.2 c number offset)
  where
    by : (b : Bool) → entered_known older c number offset ≡ first_member (enter older c) (members_in older offset number) → (if b then first_member (enter older c) (members_of older tag offset) else entered_known older c number offset) ≡ first_member (enter (tag ∷ older) c) (if b then members_of older tag offset else members_in older offset number)
    by true k = first_stays tag older h.0 c (structure_extent tag.is_union (fields (known older) tag.members)).nesting (members_of older tag offset) (parts_of older tag offset h.1)
    by false k = k ∙ first_stays tag older h.0 c (known older number).nesting (members_in older offset number) (parts_in older h.2 offset number)

-- where an expression doesn't fill an object that is no array, the search goes to its members
pub entered_type : (tags : List Tag) → AreComplete tags → (c : CoreTree) (t : CType) (at : MemberAt) → is_array t ≡ false → fills t c ≡ false → enter_by tags (entered_known tags c) c t at ≡ first_member (enter tags c) (type_members tags t at.offset)
entered_type tags h c (Plain q (Simple b)) at a f = ap (λ x. if x then Some (found at []) else None) f
entered_type tags h c (Plain q (Pointer to)) at a f = ap (λ x. if x then Some (found at []) else None) f
entered_type tags h c (Plain q (Function r ps)) at a f = ap (λ x. if x then Some (found at []) else None) f
entered_type tags h c (Plain q (Structure n)) at a f = ap (λ x. if x then Some (found at []) else entered_known tags c n at.offset) f ∙ entered_members tags h c n at.offset
entered_type tags h c (Plain q (Union n)) at a f = ap (λ x. if x then Some (found at []) else entered_known tags c n at.offset) f ∙ entered_members tags h c n at.offset
entered_type tags h c (Plain q (Enumeration n)) at a f = ap (λ x. if x then Some (found at []) else None) f
entered_type tags h c (Array of count) at a f = absurd (true≢false a)
