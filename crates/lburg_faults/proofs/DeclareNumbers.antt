-- Numbers that are known, or new.
use Rattle.std.proofs.Common.{◌≡◌, ℕ, zero, suc, Bool, true, false, ◌||◌, List, [], ◌∷◌, Some, refl, sym, ap, ◌∙◌, eqb, not, true≢false}
use Rattle.std.specs.List.{list_any}
use Rattle.std.proofs.lemmas.Option.{none-some, same_Some}
use Rattle.std.proofs.lemmas.Bool.{eqb-true, eq-eqb}
use Rattle.lburg_faults.specs.Terminals.{Among}

any_here : (n k : ℕ) (ks : List ℕ) (b : Bool) → eqb n k ≡ b → (list_any (eqb n) ks ≡ true → Among n ks) → (b || list_any (eqb n) ks) ≡ true → Among n (k ∷ ks)
any_here n k ks true e h g = (0, ap (λ (x : ℕ). Some x) (sym (eqb-true n k e)))
any_here n k ks false e h g = let r = h g in (suc r.0, r.1)

list_any_first : (n k : ℕ) (ks : List ℕ) → k ≡ n → (eqb n k || list_any (eqb n) ks) ≡ true
list_any_first n k ks e = ap (λ (b : Bool). b || list_any (eqb n) ks) (eq-eqb n k (sym e))

-- a number that a test finds is among the numbers, and one that it doesn't find isn't
pub known_number : (n : ℕ) (ks : List ℕ) → list_any (eqb n) ks ≡ true → Among n ks
known_number n [] h = absurd (true≢false (sym h))
known_number n (k ∷ ks) h = any_here n k ks (eqb n k) refl (known_number n ks) h

pub new_number : (n : ℕ) (ks : List ℕ) → list_any (eqb n) ks ≡ false → Among n ks → ⊥
new_number n [] h (i, g) = none-some n g
new_number n (k ∷ ks) h (zero, g) = true≢false (sym (list_any_first n k ks (same_Some k n g)) ∙ h)
new_number n (k ∷ ks) h (suc i, g) = new_number n ks (not_behind (eqb n k) (list_any (eqb n) ks) h) (i, g) where
  not_behind : (a b : Bool) → (a || b) ≡ false → b ≡ false
  not_behind true b e = absurd (true≢false e)
  not_behind false b e = e

pub not_true : (b : Bool) → not b ≡ true → b ≡ false
not_true true e = absurd (true≢false (sym e))
not_true false e = refl

pub not_false : (b : Bool) → not b ≡ false → b ≡ true
not_false true e = refl
not_false false e = absurd (true≢false e)
