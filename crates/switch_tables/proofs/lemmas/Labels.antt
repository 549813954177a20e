-- The labels of cases, by their numbers.
use Rattle.std.proofs.Common.{◌≡◌, ◌≢◌, ℕ, zero, suc, ◌+◌, ◌%◌, ◌^◌, ◌<◌, ◌≤◌, ◌==◌, List, [], ◌∷◌, ◌++◌, length, get_or, set, replicate, refl, sym, ap, ◌∙◌, subst, arith}
use Rattle.std.proofs.lemmas.Bool.{eq-eqb, ne_eqb}
use Rattle.std.specs.Prelude.{if◌then◌else◌}
use Rattle.std.specs.List.{AllByRecursion}
use Rattle.c_meaning.specs.declared.core_stmt.CoreCase.{CoreCase}
use Rattle.switch_tables.specs.Cases.{label_of}
use Rattle.switch_tables.specs.Tables.{labels_from}

-- none of the cases has the number
abbrev pub HasNone : ℕ → List CoreCase → Type 0
HasNone n cases = AllByRecursion (λ c. c.number ≢ n) cases

pub label_of_append : (xs ys : List CoreCase) (default n : ℕ) → label_of (xs ++ ys) default n ≡ label_of xs (label_of ys default n) n
label_of_append [] ys default n = refl
label_of_append (x ∷ xs) ys default n = ap (λ l. if x.number == n then x.label else l) (label_of_append xs ys default n)

pub label_of_none : (xs : List CoreCase) (default n : ℕ) → HasNone n xs → label_of xs default n ≡ default
label_of_none [] default n h = refl
label_of_none (x ∷ xs) default n h =
    ap (λ q. if q then x.label else label_of xs default n) (ne_eqb x.number n h.0) ∙ label_of_none xs default n h.1

-- ---- the labels of a table

pub length-labels_from : (cases : List CoreCase) (default n k : ℕ) → length (labels_from cases default n k) ≡ k
length-labels_from cases default n zero = refl
length-labels_from cases default n (suc k) = ap suc (length-labels_from cases default ((n + 1) % 2 ^ 32) k)

pub get_or-labels_from : (cases : List CoreCase) (default n k i d : ℕ) → n < 2 ^ 32 → i < k → get_or (labels_from cases default n k) i d ≡ label_of cases default ((n + i) % 2 ^ 32)
get_or-labels_from cases default n zero i d p h = absurd (omega arith)
get_or-labels_from cases default n (suc k) zero d p h = ap (label_of cases default) (omega arith)
get_or-labels_from cases default n (suc k) (suc i) d p h =
    get_or-labels_from cases default ((n + 1) % 2 ^ 32) k i d (omega arith) (omega arith) ∙ ap (label_of cases default) (omega arith)

pub labels_from_none : (default n k : ℕ) → labels_from [] default n k ≡ replicate k default
labels_from_none default n zero = refl
labels_from_none default n (suc k) = ap (λ l. default ∷ l) (labels_from_none default ((n + 1) % 2 ^ 32) k)

-- where no number has another label
same_labels : (xs ys : List CoreCase) (default n k : ℕ) → n < 2 ^ 32 → ((i : ℕ) → i < k → label_of xs default ((n + i) % 2 ^ 32) ≡ label_of ys default ((n + i) % 2 ^ 32)) → labels_from xs default n k ≡ labels_from ys default n k
same_labels xs ys default n zero p f = refl
same_labels xs ys default n (suc k) p f =
    let zeroth : (n + 0) % 2 ^ 32 ≡ n = omega arith in
    let head : label_of xs default n ≡ label_of ys default n = subst (λ m. label_of xs default m ≡ label_of ys default m) zeroth (f 0 (omega arith)) in
    let next : ℕ = (n + 1) % 2 ^ 32 in
    let rest = same_labels xs ys default ((n + 1) % 2 ^ 32) k (omega arith) (λ i h. subst (λ m. label_of xs default m ≡ label_of ys default m) (shifted i) (f (suc i) (omega arith))) in
    ap (λ l. l ∷ labels_from xs default ((n + 1) % 2 ^ 32) k) head ∙ ap (λ ls. label_of ys default n ∷ ls) rest
  where
    shifted : (i : ℕ) → (n + suc i) % 2 ^ 32 ≡ ((n + 1) % 2 ^ 32 + i) % 2 ^ 32
    shifted i = omega arith

-- one more case changes the label at its place alone
label_at_last : (xs : List CoreCase) (c : CoreCase) (default n : ℕ) → HasNone c.number xs → c.number ≡ n → label_of (xs ++ c ∷ []) default n ≡ c.label
label_at_last xs c default n h e =
    label_of_append xs (c ∷ []) default n
    ∙ (label_of_none xs (label_of (c ∷ []) default n) n (subst (λ m. HasNone m xs) e h)
    ∙ ap (λ q. if q then c.label else default) (eq-eqb c.number n e))

label_beside_last : (xs : List CoreCase) (c : CoreCase) (default n : ℕ) → c.number ≢ n → label_of (xs ++ c ∷ []) default n ≡ label_of xs default n
label_beside_last xs c default n h =
    label_of_append xs (c ∷ []) default n ∙ ap (λ l. label_of xs l n) (ap (λ q. if q then c.label else default) (ne_eqb c.number n h))

pub labels_from_more : (xs : List CoreCase) (c : CoreCase) (default n k i : ℕ) → n < 2 ^ 32 → k ≤ 2 ^ 32 → i < k → (n + i) % 2 ^ 32 ≡ c.number → HasNone c.number xs
    → labels_from (xs ++ c ∷ []) default n k ≡ set (labels_from xs default n k) i c.label
labels_from_more xs c default n zero i p r h e none = absurd (omega arith)
labels_from_more xs c default n (suc k) zero p r h e none =
    let here : c.number ≡ n = sym e ∙ omega arith in
    ap (λ l. l ∷ labels_from (xs ++ c ∷ []) default ((n + 1) % 2 ^ 32) k) (label_at_last xs c default n none here)
    ∙ ap (λ ls. c.label ∷ ls) (same_labels (xs ++ c ∷ []) xs default ((n + 1) % 2 ^ 32) k (omega arith) (λ j l. label_beside_last xs c default (((n + 1) % 2 ^ 32 + j) % 2 ^ 32) (other j l here)))
  where
    other : (j : ℕ) → j < k → c.number ≡ n → c.number ≢ ((n + 1) % 2 ^ 32 + j) % 2 ^ 32
    other j l here f = absurd (omega arith)
labels_from_more xs c default n (suc k) (suc i) p r h e none =
    let elsewhere : c.number ≢ n = λ f. absurd (omega arith) in
    ap (λ l. l ∷ labels_from (xs ++ c ∷ []) default ((n + 1) % 2 ^ 32) k) (label_beside_last xs c default n elsewhere)
    ∙ ap (λ ls. label_of xs default n ∷ ls) (labels_from_more xs c default ((n + 1) % 2 ^ 32) k i (omega arith) (omega arith) (omega arith) (shifted ∙ e) none)
  where
    shifted : ((n + 1) % 2 ^ 32 + i) % 2 ^ 32 ≡ (n + suc i) % 2 ^ 32
    shifted = omega arith
