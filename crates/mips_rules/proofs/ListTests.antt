-- Tests of lists, and what they show.
use Rattle.std.specs.Prelude.{◌≡◌, ℕ, zero, suc, ◌+◌, ◌==◌, ◌&&◌, not, Bool, true, false, Some, None, List, [], ◌∷◌, map, option_map, slice_get, refl}
use Rattle.std.proofs.Common.{ap, sym, ◌∙◌, arith, subst, ⊎_elim}
use Rattle.std.proofs.lemmas.Bool.{both_ways, and_parts, and_from, not-true, or_cases, or_left, or_right, eq-eqb}
use Rattle.std.specs.List.{list_any, AllByRecursion}
use Rattle.std.specs.Str.{bytes_eq}
use Rattle.lburg_model.specs.Description.{AreDistinct}

none_some : {A : Type 0} {y : A} → None ≡ Some y → ⊥
none_some e = cc

pub same_some : {A : Type 0} {x y : A} → Some x ≡ Some y → x ≡ y
same_some e = cc

-- each element passes with its place, from the first place on
abbrev pub each : {A : Type 0} → (ℕ → A → Bool) → ℕ → List A → Bool
each test place [] = true
each test place (x ∷ xs) = test place x && each test (suc place) xs

pub each_at : {A : Type 0} (test : ℕ → A → Bool) (place : ℕ) (xs : List A) (i : ℕ) (x : A) → each test place xs ≡ true → slice_get xs i ≡ Some x → test (place + i) x ≡ true
each_at test place [] i x h e = absurd (none_some e)
each_at test place (y ∷ ys) zero x h e =
    let n : place + 0 ≡ place = omega arith in
    ap (λ k. test k x) n ∙ ap (test place) (sym (same_some e)) ∙ (and_parts (test place y) (each test (suc place) ys) h).0
each_at test place (y ∷ ys) (suc i) x h e =
    let n : place + suc i ≡ suc place + i = omega arith in
    ap (λ k. test k x) n ∙ each_at test (suc place) ys i x (and_parts (test place y) (each test (suc place) ys) h).1 e

-- no two elements are equal
abbrev pub distinct : {A : Type 0} → (A → A → Bool) → List A → Bool
distinct same [] = true
distinct same (x ∷ xs) = not (list_any (same x) xs) && distinct same xs

any_at : {A : Type 0} (test : A → Bool) (xs : List A) (i : ℕ) (x : A) → slice_get xs i ≡ Some x → test x ≡ true → list_any test xs ≡ true
any_at test [] i x e h = absurd (none_some e)
any_at test (y ∷ ys) zero x e h = or_left (test y) (list_any test ys) (ap test (same_some e) ∙ h)
any_at test (y ∷ ys) (suc i) x e h = or_right (test y) (list_any test ys) (any_at test ys i x e h)

pub found_by : {A : Type 0} (test : A → Bool) (xs : List A) → list_any test xs ≡ true → (i : ℕ) × (x : A) × (slice_get xs i ≡ Some x) × (test x ≡ true)
found_by test [] h = absurd (both_ways false refl h)
found_by test (x ∷ xs) h =
    ⊎_elim (λ e. (0, x, refl, e)) (λ e. let f = found_by test xs e in (suc f.0, f.1, f.2, f.3)) (or_cases (test x) (list_any test xs) h)

-- the first isn't met again
not_again : {A : Type 0} (same : A → A → Bool) (x : A) (xs : List A) (i : ℕ) → ((y : A) → same y y ≡ true) → (not (list_any (same x) xs) && distinct same xs) ≡ true → slice_get xs i ≡ Some x → ⊥
not_again same x xs i reflexive h e =
    both_ways (list_any (same x) xs) (not-true _ (and_parts (not (list_any (same x) xs)) (distinct same xs) h).0) (any_at (same x) xs i x e (reflexive x))

pub distinct_places : {A : Type 0} (same : A → A → Bool) → ((y : A) → same y y ≡ true) → (xs : List A) → distinct same xs ≡ true → AreDistinct xs
distinct_places same reflexive [] h i j x e f = absurd (none_some e)
distinct_places same reflexive (y ∷ ys) h zero zero x e f = refl
distinct_places same reflexive (y ∷ ys) h zero (suc j) x e f = absurd (not_again same y ys j reflexive h (f ∙ sym e))
distinct_places same reflexive (y ∷ ys) h (suc i) zero x e f = absurd (not_again same y ys i reflexive h (e ∙ sym f))
distinct_places same reflexive (y ∷ ys) h (suc i) (suc j) x e f = ap suc (distinct_places same reflexive ys (and_parts (not (list_any (same y) ys)) (distinct same ys) h).1 i j x e f)

pub bytes_same : (xs : List ℕ) → bytes_eq xs xs ≡ true
bytes_same [] = refl
bytes_same (x ∷ xs) = and_from (x == x) (bytes_eq xs xs) (eq-eqb x x refl) (bytes_same xs)

pub number_same : (n : ℕ) → (n == n) ≡ true
number_same n = eq-eqb n n refl

-- no element stands in both lists
abbrev pub apart : {A : Type 0} → (A → A → Bool) → List A → List A → Bool
apart same xs ys = each (λ place x. not (list_any (same x) ys)) 0 xs

pub apart_at : {A : Type 0} (same : A → A → Bool) → ((y : A) → same y y ≡ true) → (xs ys : List A) (i j : ℕ) (x : A) → apart same xs ys ≡ true → slice_get xs i ≡ Some x → slice_get ys j ≡ Some x → ⊥
apart_at same reflexive xs ys i j x h e f =
    both_ways (list_any (same x) ys) (not-true _ (each_at (λ place y. not (list_any (same y) ys)) 0 xs i x h e)) (any_at (same x) ys j x f (reflexive x))

-- an element of a list of what elements give
pub mapped_at : {A B : Type 0} (f : A → B) (xs : List A) (i : ℕ) (y : B) → slice_get (map f xs) i ≡ Some y → (x : A) × (slice_get xs i ≡ Some x) × (f x ≡ y)
mapped_at f [] i y e = absurd (none_some e)
mapped_at f (x ∷ xs) zero y e = (x, refl, same_some e)
mapped_at f (x ∷ xs) (suc i) y e = mapped_at f xs i y e

pub at_mapped : {A B : Type 0} (f : A → B) (xs : List A) (i : ℕ) (x : A) → slice_get xs i ≡ Some x → slice_get (map f xs) i ≡ Some (f x)
at_mapped f [] i x e = absurd (none_some e)
at_mapped f (y ∷ xs) zero x e = ap (λ o. option_map f o) e
at_mapped f (y ∷ xs) (suc i) x e = at_mapped f xs i x e

pub all_at : {A : Type 0} (P : A → Type 0) (xs : List A) (i : ℕ) (x : A) → AllByRecursion P xs → slice_get xs i ≡ Some x → P x
all_at P [] i x all e = absurd (none_some e)
all_at P (y ∷ xs) zero x all e = subst P (same_some e) all.0
all_at P (y ∷ xs) (suc i) x all e = all_at P xs i x all.1 e
