-- Lists with one more element or another one in a place, and the names in a list of names with their symbols.
use Rattle.std.proofs.Common.{◌≡◌, ◌⊎◌, ℕ, zero, suc, ◌+◌, ◌<◌, ◌≤◌, Bool, true, false, List, [], ◌∷◌, ◌++◌, length, get_or, refl, subst, inl, inr, arith}
use Rattle.std.specs.Prelude.{Some, None, slice_set, if◌then◌else◌}
use Rattle.std.specs.Str.{bytes_eq}
use Rattle.std.proofs.lemmas.List.{length-append}
use Rattle.std.proofs.lemmas.Slice.Eq.{bytes_eq-Decides}
use Rattle.c_symbols.specs.Scoping.{AreBelow, symbol_named}

-- ---- lists

pub all_append : {A : Type 0} (P : A → Type 0) (xs : List A) (k d : A) → ((id : ℕ) → P (get_or xs id d)) → P k → (id : ℕ) → P (get_or (xs ++ k ∷ []) id d)
all_append P [] k d h q zero = q
all_append P [] k d h q (suc i) = h 0
all_append P (x ∷ xs) k d h q zero = h 0
all_append P (x ∷ xs) k d h q (suc i) = all_append P xs k d (λ j. h (suc j)) q i

pub all_set : {A : Type 0} (P : A → Type 0) (xs : List A) (i : ℕ) (k d : A) → ((id : ℕ) → P (get_or xs id d)) → P k → (id : ℕ) → P (get_or (slice_set xs i k) id d)
all_set P [] i k d h q j = h j
all_set P (x ∷ xs) zero k d h q zero = q
all_set P (x ∷ xs) zero k d h q (suc j) = h (suc j)
all_set P (x ∷ xs) (suc i) k d h q zero = h 0
all_set P (x ∷ xs) (suc i) k d h q (suc j) = all_set P xs i k d (λ j. h (suc j)) q j

-- what relates an element and what takes its place relates all
pub set_related : {A : Type 0} (R : A → A → Type 0) (xs : List A) (i : ℕ) (k d : A) → ((x : A) → R x x) → R (get_or xs i d) k → (j : ℕ) → R (get_or xs j d) (get_or (slice_set xs i k) j d)
set_related R [] i k d r q j = r d
set_related R (x ∷ xs) zero k d r q zero = q
set_related R (x ∷ xs) zero k d r q (suc j) = r (get_or xs j d)
set_related R (x ∷ xs) (suc i) k d r q zero = r x
set_related R (x ∷ xs) (suc i) k d r q (suc j) = set_related R xs i k d r q j

-- what holds of the default and of all elements holds wherever one looks
pub all_below : {A : Type 0} (P : A → Type 0) (xs : List A) (d : A) → P d → ((id : ℕ) → id < length xs → P (get_or xs id d)) → (id : ℕ) → P (get_or xs id d)
all_below P [] d q h id = q
all_below P (x ∷ xs) d q h zero = h 0 (omega arith)
all_below P (x ∷ xs) d q h (suc i) = all_below P xs d q (λ j l. h (suc j) (omega (arith, l))) i

pub seam : {A : Type 0} (xs : List A) (k d : A) → get_or (xs ++ k ∷ []) (length xs) d ≡ k
seam [] k d = refl
seam (x ∷ xs) k d = seam xs k d

one_more : {A : Type 0} (xs : List A) (k : A) → length (xs ++ k ∷ []) ≡ length xs + 1
one_more xs k = length-append xs (k ∷ [])

pub longer : {A : Type 0} (xs : List A) (k : A) → length xs ≤ length (xs ++ k ∷ [])
longer xs k = rw (one_more xs k) (omega arith)

pub last_below : {A : Type 0} (xs : List A) (k : A) → length xs < length (xs ++ k ∷ [])
last_below xs k = rw (one_more xs k) (omega arith)

-- ---- names

pub below_push : (n : ℕ) (ns : List (List ℕ × ℕ)) (x : List ℕ) (id : ℕ) → AreBelow n ns → id < n → AreBelow n (ns ++ (x, id) ∷ [])
below_push n [] x id h k = (k, tt)
below_push n (m ∷ ms) x id h k = (h.0, below_push n ms x id h.1 k)

pub some_id : (i id : ℕ) → Some i ≡ Some id → i ≡ id
some_id i id e = cc

pub named_below : (n : ℕ) (ns : List (List ℕ × ℕ)) (name : List ℕ) (id : ℕ) → AreBelow n ns → symbol_named ns name ≡ Some id → id < n
named_below n [] name id h e = absurd (let none : ⊥ = cc in none)
named_below n (m ∷ ms) name id h e = by (bytes_eq name m.0) e (named_below n ms name id h.1)
  where
    by : (b : Bool) → (if b then Some m.1 else symbol_named ms name) ≡ Some id → (symbol_named ms name ≡ Some id → id < n) → id < n
    by true e k = subst (λ i. i < n) (some_id m.1 id e) h.0
    by false e k = k e

pub named_append : (ns : List (List ℕ × ℕ)) (m : List ℕ × ℕ) (name : List ℕ) (id : ℕ) → symbol_named ns name ≡ Some id → symbol_named (ns ++ m ∷ []) name ≡ Some id
named_append [] m name id e = absurd (let none : ⊥ = cc in none)
named_append (x ∷ xs) m name id e = by (bytes_eq name x.0) e (named_append xs m name id)
  where
    by : (b : Bool) → (if b then Some x.1 else symbol_named xs name) ≡ Some id → (symbol_named xs name ≡ Some id → symbol_named (xs ++ m ∷ []) name ≡ Some id) → (if b then Some x.1 else symbol_named (xs ++ m ∷ []) name) ≡ Some id
    by true e k = e
    by false e k = k e

pub named_last : (ns : List (List ℕ × ℕ)) (name : List ℕ) (id : ℕ) → symbol_named ns name ≡ None → symbol_named (ns ++ (name, id) ∷ []) name ≡ Some id
named_last [] name id e = rw ((bytes_eq-Decides name name).1 refl)
named_last (x ∷ xs) name id e = by (bytes_eq name x.0) e (named_last xs name id)
  where
    by : (b : Bool) → (if b then Some x.1 else symbol_named xs name) ≡ None → (symbol_named xs name ≡ None → symbol_named (xs ++ (name, id) ∷ []) name ≡ Some id) → (if b then Some x.1 else symbol_named (xs ++ (name, id) ∷ []) name) ≡ Some id
    by true e k = absurd (let none : ⊥ = cc in none)
    by false e k = k e

-- a name of a list is one of it or the last
pub named_pushed : (ns : List (List ℕ × ℕ)) (name x : List ℕ) (n id : ℕ) → symbol_named (ns ++ (name, n) ∷ []) x ≡ Some id → (symbol_named ns x ≡ Some id) ⊎ (n ≡ id)
named_pushed [] name x n id e = by (bytes_eq x name) e
  where
    by : (b : Bool) → (if b then Some n else None) ≡ Some id → (None ≡ Some id) ⊎ (n ≡ id)
    by true e = inr cc
    by false e = inl e
named_pushed (m ∷ ms) name x n id e = by (bytes_eq x m.0) e (named_pushed ms name x n id)
  where
    by : (b : Bool) → (if b then Some m.1 else symbol_named (ms ++ (name, n) ∷ []) x) ≡ Some id → (symbol_named (ms ++ (name, n) ∷ []) x ≡ Some id → (symbol_named ms x ≡ Some id) ⊎ (n ≡ id))
        → ((if b then Some m.1 else symbol_named ms x) ≡ Some id) ⊎ (n ≡ id)
    by true e k = inl e
    by false e k = k e
