-- Numbers in lists.
use Rattle.std.proofs.Common.{◌≡◌, ⊎_elim, ℕ, ◌==◌, Bool, true, false, true≢false, List, [], ◌∷◌, ◌++◌, inl, inr, refl, sym, ap, ◌∙◌}
use Rattle.std.specs.Prelude.{◌⊎◌, ◌||◌}
use Rattle.std.proofs.lemmas.Bool.{eq-eqb}
use Rattle.dag_forest.specs.Schedules.{is_in}

pub or_true : (a b : Bool) → (a || b) ≡ true → (a ≡ true) ⊎ (b ≡ true)
or_true true b h = inl refl
or_true false b h = inr h

pub or_left : (a b : Bool) → a ≡ true → (a || b) ≡ true
or_left a b h = ap (λ z. z || b) h

pub or_right : (a b : Bool) → b ≡ true → (a || b) ≡ true
or_right true b h = refl
or_right false b h = h

pub or_false : (a b : Bool) → (a || b) ≡ false → (a ≡ false) × (b ≡ false)
or_false true b h = absurd (true≢false h)
or_false false b h = (refl, h)

pub in_left : (m : ℕ) (ns ms : List ℕ) → is_in m ns ≡ true → is_in m (ns ++ ms) ≡ true
in_left m [] ms h = absurd (true≢false (sym h))
in_left m (n ∷ ns) ms h = ⊎_elim (λ e. or_left (m == n) (is_in m (ns ++ ms)) e) (λ e. or_right (m == n) (is_in m (ns ++ ms)) (in_left m ns ms e)) (or_true (m == n) (is_in m ns) h)

pub in_right : (m : ℕ) (ns ms : List ℕ) → is_in m ms ≡ true → is_in m (ns ++ ms) ≡ true
in_right m [] ms h = h
in_right m (n ∷ ns) ms h = or_right (m == n) (is_in m (ns ++ ms)) (in_right m ns ms h)

pub in_cases : (m : ℕ) (ns ms : List ℕ) → is_in m (ns ++ ms) ≡ true → (is_in m ns ≡ true) ⊎ (is_in m ms ≡ true)
in_cases m [] ms h = inr h
in_cases m (n ∷ ns) ms h = ⊎_elim (λ e. inl (or_left (m == n) (is_in m ns) e)) (λ e. ⊎_elim (λ q. inl (or_right (m == n) (is_in m ns) q)) (λ q. inr q) (in_cases m ns ms e)) (or_true (m == n) (is_in m (ns ++ ms)) h)

pub in_first : (m n : ℕ) (ns : List ℕ) → m ≡ n → is_in m (n ∷ ns) ≡ true
in_first m n ns e = or_left (m == n) (is_in m ns) (eq-eqb m n e)

-- a number that isn't there differs from one that is
pub apart_in : (m n : ℕ) (ns : List ℕ) → is_in m ns ≡ true → is_in n ns ≡ false → m ≡ n → ⊥
apart_in m n ns h g e = true≢false (sym h ∙ ap (λ z. is_in z ns) e ∙ g)
