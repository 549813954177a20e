-- The members that are initialised, from all those with names.
use Rattle.std.proofs.Common.{◌≡◌, ℕ, ◌<◌, Bool, true, false, List, [], ◌∷◌, take, length, min, arith, refl, sym, ap, ◌∙◌, true≢false}
use Rattle.std.specs.Prelude.{All, map, ◌==◌, ◌||◌, if◌then◌else◌}
use Rattle.std.proofs.lemmas.List.Elements.{All-cons, All-nil}
use Rattle.c_types.specs.CType.{CType, Plain, Array, Simple, Pointer, Function, Structure, Union, Enumeration}
use Rattle.c_types.specs.declared.type_form.MemberPlace.{MemberPlace}
use Rattle.c_types.specs.Layout.{Tag}
use Rattle.c_types.specs.Definitions.{IsToldIn, is_union_in}
use Rattle.c_types.specs.Members.{MemberAt, is_defined, member_places, places_in, tag_places}
use Rattle.c_types.specs.Table.{ArePlacesBelow}
use Rattle.c_meaning.specs.Filling.{first_only, members_in, members_of, moved_to}
use Rattle.c_initialisers.specs.Members.{is_union_type, type_members}

map_first : {A B : Type 0} (f : A → B) (b : Bool) (xs : List A) → map f (first_only b xs) ≡ first_only b (map f xs)
map_first f true [] = refl
map_first f true (x ∷ xs) = refl
map_first f false xs = refl

places_moved : (tags : List Tag) (offset number : ℕ) → map (moved_to offset) (first_only (is_union_in tags number) (places_in tags number)) ≡ members_in tags offset number
places_moved [] offset number = refl
places_moved (tag ∷ older) offset number = by (number == tag.number) (places_moved older offset number)
  where
    by : (b : Bool) → map (moved_to offset) (first_only (is_union_in older number) (places_in older number)) ≡ members_in older offset number → map (moved_to offset) (first_only (if b then tag.is_union else is_union_in older number) (if b then tag_places older tag else places_in older number)) ≡ (if b then members_of older tag offset else members_in older offset number)
    by true h = map_first (moved_to offset) tag.is_union (tag_places older tag)
    by false h = h

-- where there is no definition there are no members
none_there : (tags : List Tag) (number : ℕ) → is_defined tags number ≡ false → places_in tags number ≡ []
none_there [] number h = refl
none_there (tag ∷ older) number h = by (number == tag.number) h (none_there older number)
  where
    by : (b : Bool) → (b || is_defined older number) ≡ false → (is_defined older number ≡ false → places_in older number ≡ []) → (if b then tag_places older tag else places_in older number) ≡ []
    by true e h = absurd (true≢false e)
    by false e h = h e

union_first : (tags : List Tag) (number : ℕ) → (is_defined tags number ≡ true → is_union_in tags number ≡ true) → first_only true (places_in tags number) ≡ first_only (is_union_in tags number) (places_in tags number)
union_first tags number h = by (is_defined tags number) refl
  where
    none : (b : Bool) → first_only {T = MemberAt} true [] ≡ first_only {T = MemberAt} b []
    none true = refl
    none false = refl

    by : (b : Bool) → is_defined tags number ≡ b → first_only true (places_in tags number) ≡ first_only (is_union_in tags number) (places_in tags number)
    by true e = ap (λ b. first_only b (places_in tags number)) (sym (h e))
    by false e = rw (none_there tags number e) (none (is_union_in tags number))

pub told_members : (tags : List Tag) (t : CType) (offset : ℕ) → IsToldIn tags t → map (moved_to offset) (first_only (is_union_type t) (member_places tags t)) ≡ type_members tags t offset
told_members tags (Plain q (Simple b)) offset h = refl
told_members tags (Plain q (Pointer to)) offset h = refl
told_members tags (Plain q (Function r ps)) offset h = refl
told_members tags (Plain q (Structure n)) offset h = ap (λ b. map (moved_to offset) (first_only b (places_in tags n))) (sym h) ∙ places_moved tags offset n
told_members tags (Plain q (Union n)) offset h = ap (map (moved_to offset)) (union_first tags n h) ∙ places_moved tags offset n
told_members tags (Plain q (Enumeration n)) offset h = refl
told_members tags (Array of count) offset h = refl

-- the list up to its first element
pub take_first : {A B : Type 0} (f : A → B) (xs : List A) (n : ℕ) → n ≡ min (length xs) 1 → map f (take n xs) ≡ first_only true (map f xs)
take_first f [] n e = let z : n ≡ 0 = omega (arith, e) in rw z refl
take_first f (x ∷ xs) n e = let z : n ≡ 1 = omega (arith, e) in rw z refl

pub places_below : (n : ℕ) (ps : List MemberPlace) → ArePlacesBelow n ps → All (λ p. p.of < n) ps
places_below n [] h = All-nil (λ p. p.of < n)
places_below n (p ∷ ps) h = All-cons (λ p. p.of < n) p ps h.0 (places_below n ps h.1)
