-- Numbers that rise are distinct.
use Rattle.std.specs.Prelude.{◌≡◌, ℕ, zero, suc, ◌+◌, ◌≤◌, ◌<◌, Some, List, [], ◌∷◌, ◌++◌, length, map, take, get_or, slice_get}
use Rattle.std.proofs.Common.{refl, sym, ap, ◌∙◌, subst, arith}
use Rattle.std.proofs.lemmas.List.{map-append, take_more}
use Rattle.lburg_model.specs.Description.{AreDistinct}
use Rattle.whole_lowered.specs.Rising.{Rises}

rises_behind : (a b n : ℕ) (xs : List ℕ) → Rises a xs b → b ≤ n → Rises a (xs ++ n ∷ []) (suc n)
rises_behind a b n [] h l = (omega (arith, h, l), refl)
rises_behind a b n (x ∷ xs) h l = (h.0, rises_behind (suc x) b n xs h.1 l)

rises_both : (a b c : ℕ) (xs ys : List ℕ) → Rises a xs b → Rises b ys c → Rises a (xs ++ ys) c
rises_both a b c [] ys h k = subst (λ n. Rises n ys c) h k
rises_both a b c (x ∷ xs) ys h k = (h.0, rises_both (suc x) b c xs ys h.1 k)

pub rises_more : {A : Type 0} (name : A → ℕ) (list : List A) (i : ℕ) (e : A) (first now next : ℕ) → i < length list → e ≡ get_or list i e
    → Rises first (map name (take i list)) now → now ≤ name e → next ≡ suc (name e) → Rises first (map name (take (i + 1) list)) next
rises_more name list i e first now next lt is h l n =
    subst (λ m. Rises first (map name (take (i + 1) list)) m) (sym n)
    (subst (λ xs. Rises first xs (suc (name e))) (sym (ap (map name) (take_more list i e lt ∙ ap (λ x. take i list ++ x ∷ []) (sym is)) ∙ map-append name (take i list) (e ∷ [])))
    (rises_behind first now (name e) (map name (take i list)) h l))

above : (a b : ℕ) (xs : List ℕ) (i x : ℕ) → Rises a xs b → slice_get xs i ≡ Some x → a ≤ x
above a b [] i x h e = absurd (let never : ⊥ = cc in never)
above a b (y ∷ xs) zero x h e = let same : y ≡ x = cc in omega (arith, h.0, same)
above a b (y ∷ xs) (suc i) x h e = let k = above (suc y) b xs i x h.1 e in omega (arith, h.0, k)

distinct : (a b : ℕ) (xs : List ℕ) → Rises a xs b → (i j x : ℕ) → slice_get xs i ≡ Some x → slice_get xs j ≡ Some x → i ≡ j
distinct a b [] h i j x e f = absurd (let never : ⊥ = cc in never)
distinct a b (y ∷ xs) h zero zero x e f = refl
distinct a b (y ∷ xs) h zero (suc j) x e f = let same : y ≡ x = cc in let k = above (suc y) b xs j x h.1 f in absurd (omega (arith, same, k))
distinct a b (y ∷ xs) h (suc i) zero x e f = let same : y ≡ x = cc in let k = above (suc y) b xs i x h.1 e in absurd (omega (arith, same, k))
distinct a b (y ∷ xs) h (suc i) (suc j) x e f = ap suc (distinct (suc y) b xs h.1 i j x e f)

pub both_distinct : (b c : ℕ) (xs ys : List ℕ) → Rises 0 xs b → Rises b ys c → AreDistinct (xs ++ ys)
both_distinct b c xs ys h k = λ i j x e f. distinct 0 c (xs ++ ys) (rises_both 0 b c xs ys h k) i j x e f
