-- Maps with one value more.
use Rattle.std.proofs.Common.{◌≡◌, ⊎_elim, ℕ, Bool, true, false, true≢false, refl, sym, ap, ◌∙◌}
use Rattle.std.proofs.lemmas.Bool.{cases_eq, eq-eqb, ne_eqb}
use Rattle.dag_forest.specs.Schedules.{at}

pub at_new : {A : Type 0} (f : ℕ → A) (n : ℕ) (v : A) → at f n v n ≡ v
at_new f n v = rw (eq-eqb n n refl) refl

pub at_old : {A : Type 0} (f : ℕ → A) (n : ℕ) (v : A) (m : ℕ) → (m ≡ n → ⊥) → at f n v m ≡ f m
at_old f n v m ne = rw (ne_eqb m n ne) refl

-- a node that was made is still made, and one that isn't made wasn't before
pub still_made : (made : ℕ → Bool) (n m : ℕ) → made m ≡ true → at made n true m ≡ true
still_made made n m h = ⊎_elim (λ e. ap (at made n true) e ∙ at_new made n true) (λ ne. at_old made n true m ne ∙ h) (cases_eq m n)

pub unmade : (made : ℕ → Bool) (n m : ℕ) → at made n true m ≡ false → made m ≡ false
unmade made n m h = ⊎_elim (λ e. absurd (true≢false (sym (ap (at made n true) e ∙ at_new made n true) ∙ h))) (λ ne. sym (at_old made n true m ne) ∙ h) (cases_eq m n)

pub unmade_other : (made : ℕ → Bool) (n m : ℕ) → at made n true m ≡ false → m ≡ n → ⊥
unmade_other made n m h e = true≢false (sym (ap (at made n true) e ∙ at_new made n true) ∙ h)
