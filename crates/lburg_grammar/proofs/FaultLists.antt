-- Places in lists, and lists without repetition.
use Rattle.std.proofs.Common.{◌≡◌, ℕ, ◌+◌, ◌≤◌, zero, suc, List, [], ◌∷◌, ◌++◌, length, Some, refl, sym, ap, subst, ◌∙◌, arith}
use Rattle.std.specs.Prelude.{slice_get}
use Rattle.std.proofs.lemmas.Option.{none-some, same_Some, slice_get_within}
use Rattle.lburg_faults.specs.Terminals.{Among}
use Rattle.lburg_faults.specs.Limits.{AreDistinct}

pub at_front : {A : Type 0} (xs ys : List A) (i : ℕ) (x : A) → slice_get xs i ≡ Some x → slice_get (xs ++ ys) i ≡ Some x
at_front [] ys i x g = absurd (none-some x g)
at_front (z ∷ xs) ys zero x g = g
at_front (z ∷ xs) ys (suc i) x g = at_front xs ys i x g

pub at_middle : {A : Type 0} (xs ys : List A) (x : A) → slice_get (xs ++ x ∷ ys) (length xs) ≡ Some x
at_middle [] ys x = refl
at_middle (z ∷ xs) ys x = at_middle xs ys x

pub long_enough : {A : Type 0} (xs ys : List A) (x : A) → length xs + 1 ≤ length (xs ++ x ∷ ys)
long_enough [] ys x = omega arith
long_enough (z ∷ xs) ys x = let n = long_enough xs ys x in omega arith

-- what stands behind a front isn't in it, where no value stands twice
pub not_in_front : {A : Type 0} (front back : List A) (x : A) → AreDistinct (front ++ x ∷ back) → Among x front → ⊥
not_in_front front back x once a =
    let w = slice_get_within front a.0 x a.1 in
    let e = once a.0 (length front) x (at_front front (x ∷ back) a.0 x a.1) (at_middle front back x) in
    omega arith

-- the list without the place
abbrev without : {A : Type 0} → ℕ → List A → List A
without i [] = []
without zero (x ∷ xs) = xs
without (suc i) (x ∷ xs) = x ∷ without i xs

one_less : {A : Type 0} (ys : List A) (i : ℕ) (x : A) → slice_get ys i ≡ Some x → length ys ≡ length (without i ys) + 1
one_less [] i x g = absurd (none-some x g)
one_less (y ∷ ys) zero x g = omega arith
one_less (y ∷ ys) (suc i) x g = let n = one_less ys i x g in omega arith

still : {A : Type 0} (ys : List A) (i j : ℕ) (y : A) → slice_get ys j ≡ Some y → (i ≡ j → ⊥) → Among y (without i ys)
still [] i j y g n = absurd (none-some y g)
still (z ∷ ys) zero zero y g n = absurd (n refl)
still (z ∷ ys) zero (suc j) y g n = (j, g)
still (z ∷ ys) (suc i) zero y g n = (zero, g)
still (z ∷ ys) (suc i) (suc j) y g n = let k = still ys i j y g (λ e. n (ap suc e)) in (suc k.0, k.1)

not_twice : {A : Type 0} (x y : A) (xs ys : List A) (i j k : ℕ) → AreDistinct (x ∷ xs) → slice_get ys i ≡ Some x → slice_get ys j ≡ Some y → slice_get xs k ≡ Some y → i ≡ j → ⊥
not_twice {A} x y xs ys i j k once g h m e =
    let f : x ≡ y = same_Some x y (sym g ∙ ap (λ (n : ℕ). slice_get ys n) e ∙ h) in
    let P : A → Type 0 = λ z. slice_get xs k ≡ Some z in
    let n : zero ≡ suc k = once zero (suc k) x refl (subst P (sym f) m) in
    omega arith

-- values that stand once each, all of them among others, are no more than these
pub no_longer : {A : Type 0} (xs ys : List A) → AreDistinct xs → ((x : A) → Among x xs → Among x ys) → length xs ≤ length ys
no_longer [] ys once h = omega arith
no_longer (x ∷ xs) ys once h =
    let a = h x (zero, refl) in
    let n = one_less ys a.0 x a.1 in
    let m = no_longer xs (without a.0 ys) (λ i j y p q. (let e = once (suc i) (suc j) y p q in omega arith)) (λ y b. (let c = h y (suc b.0, b.1) in still ys a.0 c.0 y c.1 (not_twice x y xs ys a.0 c.0 b.0 once a.1 c.1 b.1))) in
    omega arith

-- one value more, that isn't there yet
pub once_more : {A : Type 0} (x : A) (xs : List A) → AreDistinct xs → (Among x xs → ⊥) → AreDistinct (x ∷ xs)
once_more x xs once new zero zero y g h = refl
once_more {A} x xs once new zero (suc j) y g h = let P : A → Type 0 = λ z. slice_get xs j ≡ Some z in absurd (new (j, subst P (sym (same_Some x y g)) h))
once_more {A} x xs once new (suc i) zero y g h = let P : A → Type 0 = λ z. slice_get xs i ≡ Some z in absurd (new (i, subst P (sym (same_Some x y h)) g))
once_more x xs once new (suc i) (suc j) y g h = ap suc (once i j y g h)
