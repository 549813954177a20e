-- What is known of structures by their numbers, and the extents that this gives.
use Rattle.std.proofs.Common.{◌≡◌, ℕ, zero, suc, ◌<◌, Bool, true, false, cond, List, [], ◌∷◌, ◌++◌, take, refl, sym, ap, ◌∙◌, true≢false, arith}
use Rattle.std.specs.Prelude.{slice_get, Some, None, Option, is_some, nat_eq, ◌&&◌}
use Rattle.c_types.specs.declared.type_form.TypeForm.{TypeForm}
use Rattle.c_types.specs.declared.extent.Extent.{Extent}
use Rattle.c_types.specs.CType.{CType, Plain, Array, Simple, Pointer, Function, Structure, Union, Enumeration, qualify}
use Rattle.c_types.specs.Layout.{Tag, MemberType, known, extent_by, no_object, fields, times}
use Rattle.c_types.specs.Table.{Table, Completed, tags_of, tag_of, tagged, counted, is_tagged, are_objects}
use Rattle.c_types.specs.Keeps.{IsSettled}

-- qualifiers don't change an extent
pub extent_qualify : (k : ℕ → Extent) (q : ℕ) (t : CType) → extent_by k (qualify q t) ≡ extent_by k t
extent_qualify k q (Plain p kind) = refl
extent_qualify k q (Array t n) = rw (extent_qualify k q t) refl

abbrev pub Stay : (ℕ → Extent) → (ℕ → Extent) → Type 0
Stay k new = (n : ℕ) → is_some (k n).size ≡ true → new n ≡ k n

pub element_some : (n s : Option ℕ) → is_some (times n s) ≡ true → is_some s ≡ true
element_some (Some n) (Some s) h = refl
element_some (Some n) None h = h
element_some None s h = absurd (true≢false (sym h))

-- an object's extent stays when further structures are completed
pub extent_stays : (k new : ℕ → Extent) → Stay k new → (t : CType) → is_some (extent_by k t).size ≡ true → extent_by new t ≡ extent_by k t
extent_stays k new s (Plain q (Simple b)) h = refl
extent_stays k new s (Plain q (Pointer to)) h = refl
extent_stays k new s (Plain q (Function r ps)) h = refl
extent_stays k new s (Plain q (Structure n)) h = s n h
extent_stays k new s (Plain q (Union n)) h = s n h
extent_stays k new s (Plain q (Enumeration n)) h = refl
extent_stays k new s (Array t n) h = rw (extent_stays k new s t (element_some n (extent_by k t).size h)) refl

pub settled_extent : (k new : ℕ → Extent) → Stay k new → (t : CType) → IsSettled k t → extent_by new t ≡ extent_by k t
settled_extent k new s (Plain q (Simple b)) h = refl
settled_extent k new s (Plain q (Pointer to)) h = refl
settled_extent k new s (Plain q (Function r ps)) h = refl
settled_extent k new s (Plain q (Structure n)) h = absurd h
settled_extent k new s (Plain q (Union n)) h = absurd h
settled_extent k new s (Plain q (Enumeration n)) h = refl
settled_extent k new s (Array t n) h = rw (extent_stays k new s t h) refl

pub settled_stays : (k new : ℕ → Extent) → Stay k new → (t : CType) → IsSettled k t → IsSettled new t
settled_stays k new s (Plain q (Simple b)) h = h
settled_stays k new s (Plain q (Pointer to)) h = h
settled_stays k new s (Plain q (Function r ps)) h = h
settled_stays k new s (Plain q (Structure n)) h = h
settled_stays k new s (Plain q (Union n)) h = h
settled_stays k new s (Plain q (Enumeration n)) h = h
settled_stays k new s (Array t n) h = ap (λ (e : Extent). is_some e.size) (extent_stays k new s t h) ∙ h

pub and_left : (a b : Bool) → (a && b) ≡ true → a ≡ true
and_left true b h = refl
and_left false b h = h

pub and_right : (a b : Bool) → (a && b) ≡ true → b ≡ true
and_right true b h = h
and_right false b h = absurd (true≢false (sym h))

-- the fields of objects stay
pub fields_stay : (k new : ℕ → Extent) → Stay k new → (ms : List MemberType) → are_objects (fields k ms) ≡ true → fields new ms ≡ fields k ms
fields_stay k new s [] h = refl
fields_stay k new s (m ∷ ms) h =
    rw (extent_stays k new s m.of (and_left _ _ h), fields_stay k new s ms (and_right (is_some (extent_by k m.of).size) _ h)) refl

-- a number that no definition has
abbrev pub IsApart : ℕ → List Tag → Type 0
IsApart n [] = Unit {0}
IsApart n (tag ∷ tags) = (nat_eq n tag.number ≡ false) × IsApart n tags

pub known_apart : (tags : List Tag) (n : ℕ) → IsApart n tags → known tags n ≡ no_object
known_apart [] n h = refl
known_apart (tag ∷ tags) n h = rw (h.0) (known_apart tags n h.1)

pub apart_push : (tags : List Tag) (tag : Tag) (n : ℕ) → IsApart n tags → nat_eq n tag.number ≡ false → IsApart n (tags ++ tag ∷ [])
apart_push [] tag n h e = (e, tt)
apart_push (x ∷ tags) tag n h e = (h.0, apart_push tags tag n h.1 e)

-- one more definition is the latest
pub tags_push : (t : Table) (cs : List Completed) (c : Completed) → tags_of t (cs ++ c ∷ []) ≡ tag_of t c ∷ tags_of t cs
tags_push t [] c = refl
tags_push t (d ∷ cs) c = ap (λ ts. ts ++ tag_of t d ∷ []) (tags_push t cs c)

-- a structure, union or enumeration has a smaller number than those behind it
pub number_grows : (fs : List TypeForm) (i j : ℕ) (f : TypeForm) → i < j → slice_get fs i ≡ Some f → is_tagged f ≡ true → tagged (take i fs) < tagged (take j fs)
number_grows [] i j f l h e = absurd (cc)
number_grows (x ∷ fs) i zero f l h e = absurd (omega arith)
number_grows (x ∷ fs) zero (suc j) f l h e =
    let g : x ≡ f = cc in
    let n : counted x ≡ 1 = ap counted g ∙ ap (λ b. cond b 1 0) e in
    omega (arith, n)
number_grows (x ∷ fs) (suc i) (suc j) f l h e =
    let r = number_grows fs i j f (omega arith) h e in
    omega (arith, r)

pub same_place : (fs : List TypeForm) (i j : ℕ) (f g : TypeForm) → slice_get fs i ≡ Some f → is_tagged f ≡ true → slice_get fs j ≡ Some g → is_tagged g ≡ true → tagged (take i fs) ≡ tagged (take j fs) → i ≡ j
same_place fs i j f g a b c d e =
    let x : i < j → ⊥ = λ l. (let r = number_grows fs i j f l a b in omega (arith, r)) in
    let y : j < i → ⊥ = λ l. (let r = number_grows fs j i g l c d in omega (arith, r)) in
    grind arith
