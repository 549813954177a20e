-- Places in lists, and values that stand once.
use Rattle.std.proofs.Common.{◌≡◌, ◌≤◌, ◌<◌, ◌⊎◌, ℕ, zero, suc, Bool, true, false, List, [], ◌∷◌, ◌++◌, length, length-append, Option, Some, None, refl, sym, ap, ◌∙◌, inl, inr, arith}
use Rattle.std.specs.Prelude.{slice_get, nat_eq, IfOk}
use Rattle.std.specs.declared.result.Result.{Result}
use Rattle.std.specs.declared.result.Result.TheVariants.{Ok, Err}
use Rattle.std.specs.List.{list_any, AllByRecursion, IsDistinct}
use Rattle.std.specs.Option.{is_some}
use Rattle.std.proofs.lemmas.Option.{none-some, same_Some}
use Rattle.std.proofs.Math.Bool.{or-true}
use Rattle.std.proofs.lemmas.Cmp.{nat_list_eq_equiv}
use Rattle.std.specs.Cmp.Lexicographic.{same_text, pointwise}
use Rattle.std.proofs.lemmas.Map.Made.{length-le_from_is_member}
use Rattle.lcc_text.specs.Names.{with_name, place_of}
use Rattle.lcc_text.proofs.lemmas.Places.{place_some, place_none, known_or_new, with_known, with_new}
use Rattle.lburg_faults.specs.Terminals.{Among}
use Rattle.lburg_faults.specs.Limits.{AreDistinct}

-- of two numbers the one is less, or they are the same
pub compare : (p q : ℕ) → (p < q) ⊎ ((p ≡ q) ⊎ (q < p))
compare zero zero = inr (inl refl)
compare zero (suc q) = inl (omega arith)
compare (suc p) zero = inr (inr (omega arith))
compare (suc p) (suc q) = elim (compare p q) [
  | inl x ↦ inl (omega arith)
  | inr x ↦ elim x [
    | inl y ↦ inr (inl (ap suc y))
    | inr y ↦ inr (inr (omega arith))
  ]
]

pub not_less : (p q : ℕ) → (p ≡ q) ⊎ (q < p) → q ≤ p
not_less p q (inl h) = omega arith
not_less p q (inr h) = omega arith

-- ---- of a list and one more

pub at_end : {A : Type 0} (xs : List A) (x : A) → slice_get (xs ++ x ∷ []) (length xs) ≡ Some x
at_end [] x = refl
at_end (y ∷ xs) x = at_end xs x

pub at_front : {A : Type 0} (xs ys : List A) (i : ℕ) (x : A) → slice_get xs i ≡ Some x → slice_get (xs ++ ys) i ≡ Some x
at_front [] ys i x h = absurd (none-some x h)
at_front (y ∷ xs) ys zero x h = h
at_front (y ∷ xs) ys (suc i) x h = at_front xs ys i x h

-- of a list and one more
pub in_front : {A : Type 0} (xs : List A) (x : A) (i : ℕ) (y : A) → slice_get (xs ++ x ∷ []) i ≡ Some y → (slice_get xs i ≡ Some y) ⊎ ((i ≡ length xs) × (x ≡ y))
in_front [] x zero y h = inr (refl, same_Some x y h)
in_front [] x (suc i) y h = absurd (none-some y h)
in_front (z ∷ xs) x zero y h = inl h
in_front (z ∷ xs) x (suc i) y h = elim (in_front xs x i y h) [
  | inl l ↦ inl l
  | inr r ↦ inr (let e = r.0 in omega arith, r.1)
]

pub front_of : {A : Type 0} (xs ys : List A) (i : ℕ) (x : A) → i < length xs → slice_get (xs ++ ys) i ≡ Some x → slice_get xs i ≡ Some x
front_of [] ys i x l h = absurd (omega arith)
front_of (y ∷ xs) ys zero x l h = h
front_of (y ∷ xs) ys (suc i) x l h = front_of xs ys i x (omega arith) h

pub distinct_more : {A : Type 0} (xs : List A) (x : A) → AreDistinct xs → (Among x xs → ⊥) → AreDistinct (xs ++ x ∷ [])
distinct_more {A} xs x d n = λ i j y p q. elim (in_front xs x i y p) [
  | inl a ↦ elim (in_front xs x j y q) [
    | inl b ↦ d i j y a b
    | inr b ↦ absurd (n (i, a ∙ ap (λ (z : A). Some z) (sym b.1)))
  ]
  | inr a ↦ elim (in_front xs x j y q) [
    | inl b ↦ absurd (n (j, b ∙ ap (λ (z : A). Some z) (sym a.1)))
    | inr b ↦ a.0 ∙ sym b.0
  ]
]

-- ---- no more values than there are places for them

unlike : (a b : List ℕ) → (a ≡ b → ⊥) → pointwise nat_eq a b ≡ false
unlike a b h = settled (pointwise nat_eq a b) refl where
  settled : (r : Bool) → pointwise nat_eq a b ≡ r → r ≡ false
  settled true e = absurd (h (same_text a b (sym e)))
  settled false e = refl

all_unlike : (x : List ℕ) (ys : List (List ℕ)) → (Among x ys → ⊥) → AllByRecursion (λ y. pointwise nat_eq x y ≡ false) ys
all_unlike x [] h = tt
all_unlike x (y ∷ ys) h = (unlike x y (λ e. h (0, ap (λ (z : List ℕ). Some z) (sym e))), all_unlike x ys (λ a. h (suc a.0, a.1)))

distinct : (xs : List (List ℕ)) → AreDistinct xs → IsDistinct (pointwise nat_eq) xs
unfolding IsDistinct
distinct [] d = tt
distinct (x ∷ xs) d = (
  all_unlike x xs (λ a. (let e : 0 ≡ suc a.0 = d 0 (suc a.0) x refl a.1 in omega arith)),
  distinct xs (λ i j y p q. (let e : suc i ≡ suc j = d (suc i) (suc j) y p q in omega arith)),
)

member : (x : List ℕ) (ys : List (List ℕ)) → Among x ys → list_any (pointwise nat_eq x) ys ≡ true
member x [] a = absurd (none-some x a.1)
member x (y ∷ ys) a = here a.0 a.1 (λ i h. member x ys (i, h)) where
  here : (i : ℕ) → slice_get (y ∷ ys) i ≡ Some x → ((j : ℕ) → slice_get ys j ≡ Some x → list_any (pointwise nat_eq x) ys ≡ true) → list_any (pointwise nat_eq x) (y ∷ ys) ≡ true
  here zero h r = rw (same_Some y x h, nat_list_eq_equiv.refl x) refl
  here (suc i) h r = rw (r i h) (or-true (pointwise nat_eq x y))

among : (x : List ℕ) (ys : List (List ℕ)) → list_any (pointwise nat_eq x) ys ≡ true → Among x ys
among x [] h = absurd cc
among x (y ∷ ys) h = settled (pointwise nat_eq x y) refl (λ g. among x ys g) where
  settled : (r : Bool) → pointwise nat_eq x y ≡ r → (list_any (pointwise nat_eq x) ys ≡ true → Among x ys) → Among x (y ∷ ys)
  settled true e r = (0, ap (λ (z : List ℕ). Some z) (sym (same_text x y (sym e))))
  settled false e r = let a = r (rw e at h) in (suc a.0, a.1)

-- values that stand once, each of them among others, are no more than those
pub no_more : (xs ys : List (List ℕ)) → AreDistinct xs → ((x : List ℕ) → Among x xs → Among x ys) → length xs ≤ length ys
no_more xs ys d h = length-le_from_is_member nat_list_eq_equiv xs ys (distinct xs d) (λ q m. member q ys (h q (among q xs m)))

-- ---- a look-up's answer

pub found : (names : List (List ℕ)) (name : List ℕ) (r : Option ℕ) (b : Bool) → r ≡ place_of names name → b ≡ is_some r → b ≡ true → Among name names
found names name None b e f g = absurd cc
found names name (Some i) b e f g = (i, place_some names name i (sym e))

pub lacks : (names : List (List ℕ)) (name : List ℕ) (r : Option ℕ) (b : Bool) → r ≡ place_of names name → b ≡ is_some r → b ≡ false → Among name names → ⊥
lacks names name None b e f g a = place_none names name a.0 (sym e) a.1
lacks names name (Some i) b e f g a = absurd cc

-- ---- names and one more

pub with_among : (names : List (List ℕ)) (name other : List ℕ) → Among other names → Among other (with_name names name)
with_among names name other a = elim (known_or_new names name) [
  | inl k ↦ rw (with_known names name k.0 k.1) a
  | inr k ↦ rw (with_new names name k) (a.0, at_front names (name ∷ []) a.0 other a.1)
]

pub with_itself : (names : List (List ℕ)) (name : List ℕ) → Among name (with_name names name)
with_itself names name = elim (known_or_new names name) [
  | inl k ↦ rw (with_known names name k.0 k.1) (k.0, k.1)
  | inr k ↦ rw (with_new names name k) (length names, at_end names name)
]

pub with_only : (names : List (List ℕ)) (name other : List ℕ) → Among other (with_name names name) → Among other names ⊎ (name ≡ other)
with_only names name other a = elim (known_or_new names name) [
  | inl k ↦ inl (rw (with_known names name k.0 k.1) at a)
  | inr k ↦
      let b : Among other (names ++ name ∷ []) = rw (with_new names name k) at a in
      elim (in_front names name b.0 other b.1) [
        | inl l ↦ inl (b.0, l)
        | inr r ↦ inr r.1
      ]
]

pub with_distinct : (names : List (List ℕ)) (name : List ℕ) → AreDistinct names → AreDistinct (with_name names name)
with_distinct names name d = elim (known_or_new names name) [
  | inl k ↦ rw (with_known names name k.0 k.1) d
  | inr k ↦ rw (with_new names name k) (distinct_more names name d (λ a. k a.0 a.1))
]

pub with_few : (names : List (List ℕ)) (name : List ℕ) (most : ℕ) → length names ≤ most → ((Among name names → ⊥) → length names < most) → length (with_name names name) ≤ most
with_few names name most l h = elim (known_or_new names name) [
  | inl k ↦ rw (with_known names name k.0 k.1) l
  | inr k ↦ rw (with_new names name k) (let m = h (λ a. k a.0 a.1) in omega (arith, length-append names (name ∷ [])))
]

-- what three clauses say of one value
pub ok_of_three : {T E : Type 0} (r : Result T E) (P Q R S : T → Type 0) → ((x : T) → P x → Q x → R x → S x) → IfOk r P → IfOk r Q → IfOk r R → IfOk r S
ok_of_three (Ok x) P Q R S h p q r = h x p q r
ok_of_three (Err e) P Q R S h p q r = tt
