-- Chains of steps.
use Rattle.std.proofs.Common.{◌≡◌, ◌+◌, ℕ, zero, suc, subst, Option, Some, None, refl, sym, ap, ◌∙◌, add-one}
use Rattle.c_lexer.specs.Chains.{Chain}

more_suc : {S : Type 0} (step : S → Option S) (n : ℕ) (s t u : S) → Chain step n s t → step t ≡ Some u → Chain step (suc n) s u
more_suc step zero s t u c e = (u, ap step c ∙ e, refl)
more_suc step (suc n) s t u (mid, f, c) e = (mid, f, more_suc step n mid t u c e)

-- one more step
pub chain_more : {S : Type 0} (step : S → Option S) (n : ℕ) (s t u : S) → Chain step n s t → step t ≡ Some u → Chain step (n + 1) s u
chain_more step n s t u c e = rw add-one (more_suc step n s t u c e)

-- steps that can't go on have one end
pub chain_same : {S : Type 0} (step : S → Option S) (n m : ℕ) (s t u : S) → Chain step n s t → step t ≡ None → Chain step m s u → step u ≡ None → (n ≡ m) × (t ≡ u)
chain_same step zero zero s t u c e d f = (refl, sym c ∙ d)
chain_same step zero (suc m) s t u c e (mid, g, d) f = absurd (let k = ap step c in cc)
chain_same step (suc n) zero s t u (mid, g, c) e d f = absurd (let k = ap step d in cc)
chain_same step (suc n) (suc m) s t u (a, g, c) e (b, h, d) f =
    let k : a ≡ b = cc in
    let r = chain_same step n m b t u (subst (λ x. Chain step n x t) k c) e d f in
    (ap (λ (i : ℕ). suc i) r.0, r.1)
