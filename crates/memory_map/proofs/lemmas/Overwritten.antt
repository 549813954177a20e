-- Bytes of objects, once some of them are overwritten.
use Rattle.std.proofs.Common.{◌≡◌, ◌⊎◌, inl, inr, ⊎_elim, ℕ, zero, suc, ◌+◌, ◌<◌, ◌≤◌, List, [], ◌∷◌, length, Some, None, refl, sym, ap, arith}
use Rattle.std.specs.Prelude.{slice_get}
use Rattle.objects.specs.declared.byte.Byte.{Byte}
use Rattle.objects.specs.Objects.{overwritten}
use Rattle.objects.proofs.lemmas.ByteLaws.{length-overwritten}
use Rattle.forests.specs.Words.{Word}
use Rattle.forests.specs.Objects.{Object, with_bytes, stored}
use Rattle.memory_map.specs.Maps.{Map, start_at, HasByte}
use Rattle.memory_map.specs.Lies.{Fades}

pub none_some : {A : Type 0} (x : A) → None ≡ Some x → ⊥
none_some x e = cc

pub some_is : {A : Type 0} (x y : A) → Some x ≡ Some y → x ≡ y
some_is x y e = cc

-- an element of the overwritten list: one of the new ones, or an old one at another place
abbrev pub Over : {A : Type 0} → ℕ → List A → List A → ℕ → A → Type 0
Over k new old i b = ((j : ℕ) × (i ≡ k + j) × (slice_get new j ≡ Some b)) ⊎ (((i < k) ⊎ (k + length new ≤ i)) × (slice_get old i ≡ Some b))

pub over_cases : {A : Type 0} (k : ℕ) (new old : List A) (i : ℕ) (b : A) → slice_get (overwritten k new old) i ≡ Some b → Over k new old i b
over_cases zero [] old i b e = inr (inr (omega arith), e)
over_cases zero (x ∷ xs) [] i b e = absurd (none_some b e)
over_cases zero (x ∷ xs) (y ∷ ys) zero b e = inl (zero, refl, e)
over_cases zero (x ∷ xs) (y ∷ ys) (suc i) b e =
    ⊎_elim (λ n. inl (suc n.0, (let q = n.1 in omega (arith, q)), n.2)) (λ o. inr (inr (far o.0), o.1)) (over_cases zero xs ys i b e)
  where
    far : (i < zero) ⊎ (zero + length xs ≤ i) → zero + length (x ∷ xs) ≤ suc i
    far (inl l) = omega (arith, l)
    far (inr l) = omega (arith, l)
over_cases (suc k) new [] i b e = absurd (none_some b e)
over_cases (suc k) new (y ∷ ys) zero b e = inr (inl (omega arith), e)
over_cases (suc k) new (y ∷ ys) (suc i) b e =
    ⊎_elim (λ n. inl (n.0, (let q = n.1 in omega (arith, q)), n.2)) (λ o. inr (far o.0, o.1)) (over_cases k new ys i b e)
  where
    far : (i < k) ⊎ (k + length new ≤ i) → (suc i < suc k) ⊎ (suc k + length new ≤ suc i)
    far (inl l) = inl (omega (arith, l))
    far (inr l) = inr (omega (arith, l))

-- there is an old element below each one
pub over_old : {A : Type 0} (k : ℕ) (new old : List A) (i : ℕ) (b : A) → slice_get (overwritten k new old) i ≡ Some b → (c : A) × (slice_get old i ≡ Some c)
over_old zero [] old i b e = (b, e)
over_old zero (x ∷ xs) [] i b e = absurd (none_some b e)
over_old zero (x ∷ xs) (y ∷ ys) zero b e = (y, refl)
over_old zero (x ∷ xs) (y ∷ ys) (suc i) b e = over_old zero xs ys i b e
over_old (suc k) new [] i b e = absurd (none_some b e)
over_old (suc k) new (y ∷ ys) zero b e = (y, refl)
over_old (suc k) new (y ∷ ys) (suc i) b e = over_old k new ys i b e

-- a byte of objects into one of which bytes were stored
abbrev pub StoredAt : ℕ → ℕ → List (Byte Word) → List Object → ℕ → ℕ → Byte Word → Type 0
StoredAt o place new objects p i b =
    ((j : ℕ) × (p ≡ o) × (i ≡ place + j) × (slice_get new j ≡ Some b)) ⊎ (((p ≡ o → ⊥) ⊎ (i < place) ⊎ (place + length new ≤ i)) × HasByte objects p i b)

zero_suc : (n : ℕ) → zero ≡ suc n → ⊥
zero_suc n e = omega (arith, e)

pub stored_cases : (objects : List Object) (o place : ℕ) (new : List (Byte Word)) (p i : ℕ) (b : Byte Word) → HasByte (stored objects o place new) p i b → StoredAt o place new objects p i b
stored_cases [] o place new p i b e = absurd (none_some b e)
stored_cases (x ∷ xs) zero place new zero i b e =
    ⊎_elim (λ n. inl (n.0, refl, n.1, n.2)) (λ q. inr (⊎_elim (λ y. inr (inl y)) (λ y. inr (inr y)) q.0, q.1)) (over_cases place new x.bytes i b e)
stored_cases (x ∷ xs) zero place new (suc p) i b e = inr (inl (λ q. zero_suc p (sym q)), e)
stored_cases (x ∷ xs) (suc o) place new zero i b e = inr (inl (λ q. zero_suc o q), e)
stored_cases (x ∷ xs) (suc o) place new (suc p) i b e =
    ⊎_elim (λ n. inl (n.0, ap suc n.1, n.2, n.3)) (λ q. inr (⊎_elim (λ ne. inl (λ s. ne (less s))) (λ y. inr y) q.0, q.1)) (stored_cases xs o place new p i b e)
  where
    less : suc p ≡ suc o → p ≡ o
    less s = omega (arith, s)

pub stored_old : (objects : List Object) (o place : ℕ) (new : List (Byte Word)) (p i : ℕ) (b : Byte Word) → HasByte (stored objects o place new) p i b → (c : Byte Word) × HasByte objects p i c
stored_old [] o place new p i b e = absurd (none_some b e)
stored_old (x ∷ xs) zero place new zero i b e = over_old place new x.bytes i b e
stored_old (x ∷ xs) zero place new (suc p) i b e = (b, e)
stored_old (x ∷ xs) (suc o) place new zero i b e = (b, e)
stored_old (x ∷ xs) (suc o) place new (suc p) i b e = stored_old xs o place new p i b e

-- an object is where it was
pub stored_start : (map : Map) (objects : List Object) (o place : ℕ) (new : List (Byte Word)) (p : ℕ) → start_at map (stored objects o place new) p ≡ start_at map objects p
stored_start map [] o place new p = refl
stored_start map (x ∷ xs) zero place new zero = refl
stored_start map (x ∷ xs) zero place new (suc p) = refl
stored_start map (x ∷ xs) (suc o) place new zero = refl
stored_start map (x ∷ xs) (suc o) place new (suc p) = stored_start map xs o place new p

-- a write forgets no object, and makes none
pub stored_fades : (objects : List Object) (o place : ℕ) (new : List (Byte Word)) → Fades objects (stored objects o place new)
stored_fades objects o place new = record { before = before objects o }
  where
    before : (xs : List Object) (o p : ℕ) (x : Object) → slice_get (stored xs o place new) p ≡ Some x → (y : Object) × (slice_get xs p ≡ Some y) × (x.made ≡ y.made) × (length x.bytes ≤ length y.bytes)
    before [] o p x e = absurd (none_some x e)
    before (y ∷ ys) zero zero x e =
        let same = some_is (with_bytes y place new) x e in
        (y, refl, ap (λ (z : Object). z.made) (sym same), (let long = ap (λ (z : Object). length z.bytes) same in let over = length-overwritten place new y.bytes in omega (arith, long, over)))
    before (y ∷ ys) zero (suc p) x e = (x, e, refl, omega arith)
    before (y ∷ ys) (suc o) zero x e = (x, e, refl, omega arith)
    before (y ∷ ys) (suc o) (suc p) x e = before ys o p x e
