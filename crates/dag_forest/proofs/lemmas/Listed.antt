-- Lists with one more item at their end.
use Rattle.std.proofs.Common.{◌≡◌, ℕ, zero, suc, ◌||◌, Bool, true, false, true≢false, Some, List, [], ◌∷◌, ◌++◌, length, slice_get, ◌⊎◌, inl, inr, refl, sym, ap, ◌∙◌}
use Rattle.std.specs.List.{list_any}

or_false : (a b : Bool) → (a || b) ≡ false → (a ≡ false) × (b ≡ false)
or_false true b h = absurd (true≢false h)
or_false false b h = (refl, h)

module _ {K : Type 0} where
  -- an item of the longer list is one of the list, or the last one
  pub snoc_cases : (ks : List K) (k q : K) (i : ℕ) → slice_get (ks ++ k ∷ []) i ≡ Some q → (slice_get ks i ≡ Some q) ⊎ ((i ≡ length ks) × (k ≡ q))
  snoc_cases [] k q zero h = let e : k ≡ q = cc in inr (refl, e)
  snoc_cases [] k q (suc i) h = let no : ⊥ = cc in absurd no
  snoc_cases (y ∷ ks) k q zero h = inl h
  snoc_cases (y ∷ ks) k q (suc i) h = elim (snoc_cases ks k q i h) [ inl a ↦ inl a | inr b ↦ inr (ap suc b.0, b.1) ]

  -- no item passes a test that none passes
  pub none_passes : (p : K → Bool) (ks : List K) (i : ℕ) (k : K) → list_any p ks ≡ false → slice_get ks i ≡ Some k → p k ≡ true → ⊥
  none_passes p [] i k n h t = let no : ⊥ = cc in no
  none_passes p (y ∷ ks) zero k n h t = let e : y ≡ k = cc in true≢false (sym t ∙ ap p (sym e) ∙ (or_false (p y) (list_any p ks) n).0)
  none_passes p (y ∷ ks) (suc i) k n h t = none_passes p ks i k (or_false (p y) (list_any p ks) n).1 h t
