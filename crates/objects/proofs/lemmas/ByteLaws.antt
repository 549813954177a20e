-- Laws of bytes in lists: bytes written are read, and bytes elsewhere are as before.
use Rattle.std.specs.Prelude.{◌≡◌, ◌≤◌, ◌<◌, ◌⊎◌, ℕ, zero, suc, ◌+◌, List, [], ◌∷◌, ◌++◌, length, take, drop, slice_get}
use Rattle.std.proofs.Common.{refl, arith, ap, subst, inl, inr}
use Rattle.objects.specs.Objects.{overwritten}

pub length-overwritten : {A : Type 0} → (k : ℕ) (new old : List A) → length (overwritten k new old) ≡ length old
length-overwritten zero [] old = refl
length-overwritten zero (x ∷ xs) [] = refl
length-overwritten zero (x ∷ xs) (y ∷ ys) = ap suc (length-overwritten zero xs ys)
length-overwritten (suc k) new [] = refl
length-overwritten (suc k) new (y ∷ ys) = ap suc (length-overwritten k new ys)

-- what was written stands there
pub reads_written : {A : Type 0} → (k : ℕ) (new old : List A) → k + length new ≤ length old → take (length new) (drop k (overwritten k new old)) ≡ new
reads_written zero [] old h = refl
reads_written zero (x ∷ xs) [] h = absurd (let never : ⊥ = omega arith in never)
reads_written zero (x ∷ xs) (y ∷ ys) h = ap (λ zs. x ∷ zs) (reads_written zero xs ys (omega arith))
reads_written (suc k) new [] h = absurd (let never : ⊥ = omega arith in never)
reads_written (suc k) new (y ∷ ys) h = reads_written k new ys (omega arith)

-- a place before or behind is as it was
pub others_stay : {A : Type 0} → (k : ℕ) (new old : List A) (j : ℕ) → (j < k) ⊎ (k + length new ≤ j) → slice_get (overwritten k new old) j ≡ slice_get old j
others_stay zero [] old j h = refl
others_stay zero (x ∷ xs) [] j h = refl
others_stay zero (x ∷ xs) (y ∷ ys) zero h = absurd (let never : ⊥ = omega arith in never)
others_stay zero (x ∷ xs) (y ∷ ys) (suc j) h = others_stay zero xs ys j (inr (omega arith))
others_stay (suc k) new [] j h = refl
others_stay (suc k) new (y ∷ ys) zero h = refl
others_stay (suc k) new (y ∷ ys) (suc j) h = others_stay k new ys j (elim h [ inl before ↦ inl (omega arith) | inr behind ↦ inr (omega arith) ])

twice_in_front : {A : Type 0} → (first second old : List A) → length first + length second ≤ length old → overwritten (length first) second (overwritten zero first old) ≡ overwritten zero (first ++ second) old
twice_in_front [] second old h = refl
twice_in_front (x ∷ xs) second [] h = absurd (let never : ⊥ = omega arith in never)
twice_in_front (x ∷ xs) second (y ∷ ys) h = ap (λ zs. x ∷ zs) (twice_in_front xs second ys (omega arith))

-- bytes written one part behind the other are those of the whole
pub written_twice : {A : Type 0} → (k m : ℕ) (first second old : List A) → m ≡ k + length first → m + length second ≤ length old → overwritten m second (overwritten k first old) ≡ overwritten k (first ++ second) old
written_twice zero m first second old e h =
    let there : length first ≡ m = omega arith in
    subst (λ (j : ℕ). overwritten j second (overwritten zero first old) ≡ overwritten zero (first ++ second) old) there (twice_in_front first second old (omega arith))
written_twice (suc k) zero first second old e h = absurd (let never : ⊥ = omega arith in never)
written_twice (suc k) (suc m) first second [] e h = absurd (let never : ⊥ = omega arith in never)
written_twice (suc k) (suc m) first second (y ∷ ys) e h = ap (λ zs. y ∷ zs) (written_twice k m first second ys (omega arith) (omega arith))
