-- Notes of pairs: what stands in them, and what an insertion makes of them.
use Rattle.std.proofs.Common.{◌≡◌, inl, inr, ℕ, Bool, true, false, cond, List, [], ◌∷◌, ◌++◌, refl, sym, ap, ◌∙◌, subst, true≢false, arith}
use Rattle.std.specs.Prelude.{◌&&◌, ◌⊎◌, All, Contains, Err, IfOk, IfSome, None, Ok, OnErr, OnOk, Option, Result, Some, nat_eq, if◌then◌else◌}
use Rattle.std.specs.List.{list_any}
use Rattle.std.specs.Map.{lookup}
use Rattle.std.proofs.lemmas.Bool.Decides.{nat_tests}
use Rattle.std.proofs.lemmas.List.Elements.{All-cons, All-contains, All-contains_itself, All-head, All-nil, All-push, All-tail, All-weaker, Contains-append_right, Contains-get_or}
use Rattle.indexmap.specs.IndexMap.{insert_entry}
use Rattle.indexmap.specs.IndexSet.{insert_key}
use Rattle.indexmap.proofs.CallerLemmas.{Contains-list_any}

abbrev pub Pair : Type 0
Pair = ℕ × ℕ

abbrev pub pair_eq : Pair → Pair → Bool
pair_eq p q = nat_eq p.0 q.0 && nat_eq p.1 q.1

pub same_pair : (p q : Pair) → pair_eq p q ≡ true → p ≡ q
same_pair p q h = by (nat_eq p.0 q.0) (nat_eq p.1 q.1) refl refl h
  where
    by : (a b : Bool) → nat_eq p.0 q.0 ≡ a → nat_eq p.1 q.1 ≡ b → (a && b) ≡ true → p ≡ q
    by true true e g h =
        let x : p.0 ≡ q.0 = grind (arith, nat_tests) in
        let y : p.1 ≡ q.1 = grind (arith, nat_tests) in
        ap (λ (n : ℕ). (n, p.1)) x ∙ ap (λ (n : ℕ). (q.0, n)) y
    by true false e g h = absurd (true≢false (sym h))
    by false b e g h = absurd (true≢false (sym h))

-- ---- pairs

pub has_pair : (ks : List Pair) (k : Pair) → list_any (pair_eq k) ks ≡ true → Contains ks k
has_pair ks k h = Contains-list_any pair_eq same_pair ks k h

old_or : {X : Type 0} (xs : List X) (x : X) → All (λ y. Contains xs y ⊎ (y ≡ x)) xs
old_or {X} xs x = All-weaker (Contains xs) (λ y. Contains xs y ⊎ (y ≡ x)) (λ y h. inl h) xs (All-contains_itself xs)

with_pair : (ks : List Pair) (k : Pair) → All (λ p. Contains ks p ⊎ (p ≡ k)) (insert_key pair_eq ks k)
with_pair ks k = by (list_any (pair_eq k) ks)
  where
    by : (b : Bool) → All (λ p. Contains ks p ⊎ (p ≡ k)) (if b then ks else ks ++ k ∷ [])
    by true = old_or ks k
    by false = All-push (λ p. Contains ks p ⊎ (p ≡ k)) ks k (old_or ks k) (inr refl)

pub noted_pair : {E : Type 0} (r : Result Bool E) (ks new : List Pair) (k : Pair) → IfOk r (λ _. new ≡ insert_key pair_eq ks k) → OnErr r (new ≡ ks) → All (λ p. Contains ks p ⊎ (p ≡ k)) new
noted_pair (Ok b) ks new k e g = subst (All (λ (p : Pair). Contains ks p ⊎ (p ≡ k))) (sym e) (with_pair ks k)
noted_pair (Err x) ks new k e g = subst (All (λ (p : Pair). Contains ks p ⊎ (p ≡ k))) (sym g) (old_or ks k)

-- ---- a property of all that is noted

pub still_all : {X : Type 0} (P : X → Type 0) (old new : List X) (x : X) → All P old → P x → All (λ y. Contains old y ⊎ (y ≡ x)) new → All P new
still_all {X} P old new x h g n = All-weaker (λ y. Contains old y ⊎ (y ≡ x)) P by new n
  where
    by : (y : X) → Contains old y ⊎ (y ≡ x) → P y
    by y w = elim w [ inl c ↦ All-contains P old y h c | inr e ↦ subst P (sym e) g ]

-- ---- pairs with what was made of them

inserted : (P : Pair × ℕ → Type 0) (es : List (Pair × ℕ)) (k : Pair) (v : ℕ) → All P es → P (k, v) → All P (insert_entry pair_eq es k v)
inserted P [] k v h g = All-cons P (k, v) [] g (All-nil P)
inserted P (e ∷ es) k v h g = by (pair_eq k e.0) refl (inserted P es k v (All-tail P e es h) g)
  where
    by : (b : Bool) → pair_eq k e.0 ≡ b → All P (insert_entry pair_eq es k v) → All P (if b then (e.0, v) ∷ es else e ∷ insert_entry pair_eq es k v)
    by true q rest = All-cons P (e.0, v) es (subst (λ (p : Pair). P (p, v)) (same_pair k e.0 q) g) (All-tail P e es h)
    by false q rest = All-cons P e (insert_entry pair_eq es k v) (All-head P e es h) rest

pub noted_entry : {O E : Type 0} (r : Result O E) (es new : List (Pair × ℕ)) (k : Pair) (v : ℕ) → OnOk r (new ≡ insert_entry pair_eq es k v) → OnErr r (new ≡ es) → All (λ e. Contains es e ⊎ (e ≡ (k, v))) new
noted_entry (Ok o) es new k v e g = subst (All (λ (x : Pair × ℕ). Contains es x ⊎ (x ≡ (k, v)))) (sym e) (inserted (λ x. Contains es x ⊎ (x ≡ (k, v))) es k v (old_or es (k, v)) (inr refl))
noted_entry (Err x) es new k v e g = subst (All (λ (y : Pair × ℕ). Contains es y ⊎ (y ≡ (k, v)))) (sym g) (old_or es (k, v))

there : (es : List (Pair × ℕ)) (k : Pair) → IfSome (lookup (pair_eq k) es) (λ v. Contains es (k, v))
there [] k = tt
there (e ∷ es) k = by (pair_eq k e.0) refl (lookup (pair_eq k) es) (there es k)
  where
    by : (b : Bool) → pair_eq k e.0 ≡ b → (o : Option ℕ) → IfSome o (λ v. Contains es (k, v)) → IfSome (cond b (Some e.1) o) (λ v. Contains (e ∷ es) (k, v))
    by true q o h = subst (λ (p : Pair). Contains (e ∷ es) (p, e.1)) (sym (same_pair k e.0 q)) (Contains-get_or (e ∷ es) 0 e (omega arith))
    by false q None h = tt
    by false q (Some v) h = Contains-append_right (e ∷ []) es (k, v) h

pub found_entry : (es : List (Pair × ℕ)) (k : Pair) (o : Option ℕ) → o ≡ lookup (pair_eq k) es → IfSome o (λ v. Contains es (k, v))
found_entry es k o e = subst (λ (r : Option ℕ). IfSome r (λ v. Contains es (k, v))) (sym e) (there es k)
