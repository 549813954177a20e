-- Places in lists, and names that stand once.
use Rattle.std.proofs.Common.{◌≡◌, ◌≤◌, ◌<◌, ◌⊎◌, ℕ, ◌+◌, zero, suc, Bool, true, false, List, [], ◌∷◌, ◌++◌, length, take, Some, refl, sym, ap, ◌∙◌, inl, inr, arith}
use Rattle.std.specs.Prelude.{slice_get, nat_eq}
use Rattle.std.specs.List.{list_any, AllByRecursion, IsDistinct}
use Rattle.std.proofs.lemmas.Option.{none-some, same_Some}
use Rattle.std.proofs.Math.Bool.{or-true}
use Rattle.std.proofs.lemmas.Cmp.{nat_list_eq_equiv}
use Rattle.std.specs.Cmp.Lexicographic.{same_text, pointwise}
use Rattle.std.proofs.lemmas.Map.Made.{length-le_from_is_member}
use Rattle.lburg_faults.specs.Terminals.{Among}
use Rattle.lburg_faults.specs.Limits.{AreDistinct}

-- of two numbers the one is less, or they are the same
pub compare : (p q : ℕ) → (p < q) ⊎ ((p ≡ q) ⊎ (q < p))
compare zero zero = inr (inl refl)
compare zero (suc q) = inl (omega arith)
compare (suc p) zero = inr (inr (omega arith))
compare (suc p) (suc q) = elim (compare p q) [
  | inl x ↦ inl (omega arith)
  | inr x ↦ elim x [
    | inl y ↦ inr (inl (ap suc y))
    | inr y ↦ inr (inr (omega arith))
  ]
]

-- ---- no more values than there are places for them

unlike : (a b : List ℕ) → (a ≡ b → ⊥) → pointwise nat_eq a b ≡ false
unlike a b h = settled (pointwise nat_eq a b) refl where
  settled : (r : Bool) → pointwise nat_eq a b ≡ r → r ≡ false
  settled true e = absurd (h (same_text a b (sym e)))
  settled false e = refl

all_unlike : (x : List ℕ) (ys : List (List ℕ)) → (Among x ys → ⊥) → AllByRecursion (λ y. pointwise nat_eq x y ≡ false) ys
all_unlike x [] h = tt
all_unlike x (y ∷ ys) h = (unlike x y (λ e. h (0, ap (λ (z : List ℕ). Some z) (sym e))), all_unlike x ys (λ a. h (suc a.0, a.1)))

distinct : (xs : List (List ℕ)) → AreDistinct xs → IsDistinct (pointwise nat_eq) xs
unfolding IsDistinct
distinct [] d = tt
distinct (x ∷ xs) d = (
  all_unlike x xs (λ a. (let e : 0 ≡ suc a.0 = d 0 (suc a.0) x refl a.1 in omega arith)),
  distinct xs (λ i j y p q. (let e : suc i ≡ suc j = d (suc i) (suc j) y p q in omega arith)),
)

member : (x : List ℕ) (ys : List (List ℕ)) → Among x ys → list_any (pointwise nat_eq x) ys ≡ true
member x [] a = absurd (none-some x a.1)
member x (y ∷ ys) a = here a.0 a.1 (λ i h. member x ys (i, h)) where
  here : (i : ℕ) → slice_get (y ∷ ys) i ≡ Some x → ((j : ℕ) → slice_get ys j ≡ Some x → list_any (pointwise nat_eq x) ys ≡ true) → list_any (pointwise nat_eq x) (y ∷ ys) ≡ true
  here zero h r = rw (same_Some y x h, nat_list_eq_equiv.refl x) refl
  here (suc i) h r = rw (r i h) (or-true (pointwise nat_eq x y))

among : (x : List ℕ) (ys : List (List ℕ)) → list_any (pointwise nat_eq x) ys ≡ true → Among x ys
among x [] h = absurd cc
among x (y ∷ ys) h = settled (pointwise nat_eq x y) refl (λ g. among x ys g) where
  settled : (r : Bool) → pointwise nat_eq x y ≡ r → (list_any (pointwise nat_eq x) ys ≡ true → Among x ys) → Among x (y ∷ ys)
  settled true e r = (0, ap (λ (z : List ℕ). Some z) (sym (same_text x y (sym e))))
  settled false e r = let a = r (rw e at h) in (suc a.0, a.1)

-- values that stand once, each of them among others, are no more than those
pub no_more : (xs ys : List (List ℕ)) → AreDistinct xs → ((x : List ℕ) → Among x xs → Among x ys) → length xs ≤ length ys
no_more xs ys d h = length-le_from_is_member nat_list_eq_equiv xs ys (distinct xs d) (λ q m. member q ys (h q (among q xs m)))

-- ---- fronts of lists

pub some_at : {A : Type 0} (xs : List A) (i : ℕ) → i < length xs → (x : A) × (slice_get xs i ≡ Some x)
some_at [] i l = absurd (omega arith)
some_at (x ∷ xs) zero l = (x, refl)
some_at (x ∷ xs) (suc i) l = some_at xs i (omega arith)

pub take_get : {A : Type 0} (xs : List A) (i j : ℕ) → i < j → slice_get (take j xs) i ≡ slice_get xs i
take_get xs i zero h = absurd (omega arith)
take_get [] i (suc j) h = refl
take_get (x ∷ xs) zero (suc j) h = refl
take_get (x ∷ xs) (suc i) (suc j) h = take_get xs i j (omega arith)

pub take_front : {A : Type 0} (xs ys : List A) (k : ℕ) → take (length xs + k) (xs ++ ys) ≡ xs ++ take k ys
take_front [] ys k = ap (λ (n : ℕ). take n ys) (omega arith)
take_front (x ∷ xs) ys k = let e : length (x ∷ xs) + k ≡ suc (length xs + k) = omega arith in ap (λ (n : ℕ). take n (x ∷ (xs ++ ys))) e ∙ ap (λ (zs : List _). x ∷ zs) (take_front xs ys k)

pub take_short : {A : Type 0} (xs ys : List A) (k : ℕ) → k ≤ length xs → take k (xs ++ ys) ≡ take k xs
take_short [] [] zero h = refl
take_short [] (y ∷ ys) zero h = refl
take_short [] ys (suc k) h = absurd (omega arith)
take_short (x ∷ xs) ys zero h = refl
take_short (x ∷ xs) ys (suc k) h = ap (λ (zs : List _). x ∷ zs) (take_short xs ys k (omega arith))

-- an element of two lists is one of the first, or one of the second
pub front_or_back : {A : Type 0} (xs ys : List A) (k : ℕ) (x : A) → slice_get (xs ++ ys) k ≡ Some x → ((k < length xs) × (slice_get xs k ≡ Some x)) ⊎ ((j : ℕ) × (k ≡ length xs + j) × (slice_get ys j ≡ Some x))
front_or_back [] ys k x h = inr (k, omega arith, h)
front_or_back (y ∷ xs) ys zero x h = inl (omega arith, h)
front_or_back (y ∷ xs) ys (suc k) x h = elim (front_or_back xs ys k x h) [
  | inl e ↦ (let l = e.0 in inl (omega arith, e.1))
  | inr e ↦ (let l = e.1 in inr (e.0, omega arith, e.2))
]
