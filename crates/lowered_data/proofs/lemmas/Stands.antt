-- What stands in lists from places on.
use Rattle.std.specs.Prelude.{◌≡◌, ◌≤◌, ◌<◌, ℕ, zero, suc, ◌+◌, Some, List, [], ◌∷◌, ◌++◌, length, take, drop, replicate, slice_get}
use Rattle.std.proofs.Common.{refl, ap, sym, subst, ◌∙◌, arith}
use Rattle.std.proofs.lemmas.List.{drop_all, length-append}
use Rattle.objects.specs.declared.byte.Byte.{Byte}
use Rattle.objects.specs.declared.byte.Byte.TheVariants.{Bits}
use Rattle.objects.specs.declared.value.Value.{Value}
use Rattle.objects.specs.Bytes.{known_bytes}
use Rattle.lowered_data.specs.Stand.{Stand}

-- others behind them
pub stand_append : {A : Type 0} (all : List A) (from n : ℕ) (xs ys : List A) → Stand all from xs → n ≡ from + length xs → Stand all n ys → Stand all from (xs ++ ys)
stand_append all from n [] ys s e h = let same : n ≡ from = omega (arith, e) in subst (λ (k : ℕ). Stand all k ys) same h
stand_append all from n (x ∷ xs) ys s e h = (s.0, stand_append all (suc from) n xs ys s.1 (omega (arith, e)) h)

head_of : {A : Type 0} (from : ℕ) (all : List A) (x : A) (ys : List A) → drop from all ≡ x ∷ ys → (slice_get all from ≡ Some x) × (drop (suc from) all ≡ ys)
head_of zero [] x ys e = absurd (let never : ⊥ = cc in never)
head_of zero (z ∷ zs) x ys e = (cc, cc)
head_of (suc n) [] x ys e = absurd (let never : ⊥ = cc in never)
head_of (suc n) (z ∷ zs) x ys e = head_of n zs x ys e

stand_rest : {A : Type 0} (n from : ℕ) (all xs : List A) → drop from all ≡ xs → Stand all from (take n xs)
stand_rest zero from all xs e = tt
stand_rest (suc n) from all [] e = tt
stand_rest (suc n) from all (x ∷ xs) e = let h = head_of from all x xs e in (h.0, stand_rest n (suc from) all xs h.1)

-- what is taken from a place on stands there
pub stand_taken : {A : Type 0} (n from : ℕ) (all : List A) → Stand all from (take n (drop from all))
stand_taken n from all = stand_rest n from all (drop from all) refl

dropped_at : {A : Type 0} (all : List A) (n : ℕ) (x : A) → slice_get all n ≡ Some x → drop n all ≡ x ∷ drop (suc n) all
dropped_at [] n x e = absurd (let never : ⊥ = cc in never)
dropped_at (y ∷ ys) zero x e = let same : y ≡ x = cc in ap (λ z. z ∷ ys) same
dropped_at (y ∷ ys) (suc n) x e = dropped_at ys n x e

-- what stands up to the end
pub stand_whole : {A : Type 0} (all : List A) (from : ℕ) (xs : List A) → Stand all from xs → from + length xs ≡ length all → drop from all ≡ xs
stand_whole all from [] s e = drop_all from all (omega (arith, e))
stand_whole all from (x ∷ xs) s e = dropped_at all from x s.0 ∙ ap (λ zs. x ∷ zs) (stand_whole all (suc from) xs s.1 (omega (arith, e)))

-- the same one so many times
pub stand_same : {A : Type 0} (all : List A) (from n : ℕ) (x : A) → ((k : ℕ) → from ≤ k → k < from + n → slice_get all k ≡ Some x) → Stand all from (replicate n x)
stand_same all from zero x h = tt
stand_same all from (suc n) x h = (h from (omega arith) (omega arith), stand_same all (suc from) n x (λ k a b. h k (omega (arith, a)) (omega (arith, b))))

known_stand : (all : List (Byte Value)) (from n : ℕ) (bytes : List ℕ) (b : ℕ) → Stand all from (known_bytes bytes) → n ≡ from + length bytes → slice_get all n ≡ Some (Bits 255 b) → Stand all from (known_bytes (bytes ++ b ∷ []))
known_stand all from n [] b s e h = let same : from ≡ n = omega (arith, e) in (ap (λ (k : ℕ). slice_get all k) same ∙ h, tt)
known_stand all from n (y ∷ ys) b s e h = (s.0, known_stand all (suc from) n ys b s.1 (omega (arith, e)) h)

-- one known byte more
pub known_push : (all : List (Byte Value)) (from n : ℕ) (bytes new : List ℕ) (b : ℕ) → Stand all from (known_bytes bytes) → from + length bytes ≡ n → slice_get all n ≡ Some (Bits 255 b) → new ≡ bytes ++ b ∷ [] → Stand all from (known_bytes new) × (from + length new ≡ n + 1)
known_push all from n bytes new b s c h e =
    (subst (λ ns. Stand all from (known_bytes ns)) (sym e) (known_stand all from n bytes b s (sym c) h), (let l = ap length e ∙ length-append bytes (b ∷ []) in omega (arith, l, c)))
