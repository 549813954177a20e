-- Lists in which no item stands twice.
use Rattle.std.specs.Prelude.{◌≡◌, ◌⊎◌, ℕ, zero, suc, ◌+◌, not, ◌||◌, ◌&&◌, Bool, true, false, Some, All, List, [], ◌∷◌, ◌++◌, length, slice_get}
use Rattle.std.specs.Str.{bytes_eq}
use Rattle.std.specs.List.{AllByRecursion}
use Rattle.std.proofs.Common.{true≢false, ⊎_elim, inl, inr, refl, sym, ap, subst, ◌∙◌, arith}
use Rattle.std.proofs.lemmas.List.Elements.{All-from_recursion}
use Rattle.std.proofs.lemmas.Slice.Eq.{bytes_eq-Decides}
use Rattle.lburg_model.specs.Description.{AreDistinct}
use Rattle.c_meaning.specs.Units.{are_different, is_same_among}

module _ {A : Type 0} where
  -- an item of two lists is one of the first, or of the second
  pub either_list : (xs ys : List A) (i : ℕ) (x : A) → slice_get (xs ++ ys) i ≡ Some x → (slice_get xs i ≡ Some x) ⊎ ((k : ℕ) × (i ≡ length xs + k) × (slice_get ys k ≡ Some x))
  either_list [] ys i x e = inr (i, omega arith, e)
  either_list (y ∷ xs) ys zero x e = inl e
  either_list (y ∷ xs) ys (suc i) x e = ⊎_elim (λ a. inl a) (λ b. inr (b.0, (let q = b.1 in omega (arith, q)), b.2)) (either_list xs ys i x e)

  pub distinct_append : (xs ys : List A) → AreDistinct xs → AreDistinct ys → ((i j : ℕ) (x : A) → slice_get xs i ≡ Some x → slice_get ys j ≡ Some x → ⊥) → AreDistinct (xs ++ ys)
  distinct_append xs ys h g apart = λ i j x e f.
      ⊎_elim
      (λ a. ⊎_elim (λ b. h i j x a b) (λ b. absurd (apart i b.0 x a b.2)) (either_list xs ys j x f))
      (λ a. ⊎_elim (λ b. absurd (apart j a.0 x b a.2)) (λ b. a.1 ∙ ap (λ (k : ℕ). length xs + k) (g a.0 b.0 x a.2 b.2) ∙ sym b.1) (either_list xs ys j x f))
      (either_list xs ys i x e)

  -- what holds of each item
  each_by : (P : A → Type 0) (xs : List A) → ((i : ℕ) (x : A) → slice_get xs i ≡ Some x → P x) → AllByRecursion P xs
  each_by P [] h = tt
  each_by P (x ∷ xs) h = (h 0 x refl, each_by P xs (λ i y e. h (suc i) y e))

  pub all_of : (P : A → Type 0) (xs : List A) → ((i : ℕ) (x : A) → slice_get xs i ≡ Some x → P x) → All P xs
  all_of P xs h = All-from_recursion P xs (each_by P xs h)

-- ---- names that differ

or_first : (a b : Bool) → a ≡ true → (a || b) ≡ true
or_first true b e = refl
or_first false b e = absurd (true≢false (sym e))

or_second : (a b : Bool) → b ≡ true → (a || b) ≡ true
or_second true b e = refl
or_second false b e = e

pub same_bytes : (a : List ℕ) → bytes_eq a a ≡ true
same_bytes a = (bytes_eq-Decides a a).1 refl

among : (n : List ℕ) (ns : List (List ℕ)) (i : ℕ) → slice_get ns i ≡ Some n → is_same_among n ns ≡ true
among n [] i e = absurd (let never : ⊥ = cc in never)
among n (m ∷ ns) zero e = let q : m ≡ n = cc in or_first (bytes_eq n m) (is_same_among n ns) (subst (λ (x : List ℕ). bytes_eq n x ≡ true) (sym q) (same_bytes n))
among n (m ∷ ns) (suc i) e = or_second (bytes_eq n m) (is_same_among n ns) (among n ns i e)

both_so : (a b : Bool) → (not a && b) ≡ true → (a ≡ false) × (b ≡ true)
both_so true b e = absurd (true≢false (sym e))
both_so false b e = (refl, e)

never_both : (n m : List ℕ) (ns : List (List ℕ)) (i : ℕ) → is_same_among m ns ≡ false → m ≡ n → slice_get ns i ≡ Some n → ⊥
never_both n m ns i h q e = true≢false (sym (among n ns i e) ∙ ap (λ (x : List ℕ). is_same_among x ns) (sym q) ∙ h)

step : (n : List ℕ) (ns : List (List ℕ)) → is_same_among n ns ≡ false → AreDistinct ns → (i j : ℕ) (x : List ℕ) → slice_get (n ∷ ns) i ≡ Some x → slice_get (n ∷ ns) j ≡ Some x → i ≡ j
step n ns r d zero zero x e f = refl
step n ns r d zero (suc j) x e f = absurd (never_both x n ns j r (let q : n ≡ x = cc in q) f)
step n ns r d (suc i) zero x e f = absurd (never_both x n ns i r (let q : n ≡ x = cc in q) e)
step n ns r d (suc i) (suc j) x e f = ap suc (d i j x e f)

pub different_names : (ns : List (List ℕ)) → are_different ns ≡ true → AreDistinct ns
different_names [] h = λ i j x e f. absurd (let never : ⊥ = cc in never)
different_names (n ∷ ns) h = let r = both_so (is_same_among n ns) (are_different ns) h in step n ns r.0 (different_names ns r.1)
