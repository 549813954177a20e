-- A taker's run over one list of trees and then another.
use Rattle.std.proofs.Common.{◌≡◌, ◌∙◌, ℕ, ◌+◌, List, [], ◌∷◌, ◌++◌, length, sym, ap, subst, append_assoc, append-nil, arith}
use Rattle.lburg_model.specs.Tree.{MTree}
use Rattle.lburg_trees.specs.Taking.{Takes}

module _ {T : Type 0} (step : T → ℕ → MTree → T → Type 0) where
  pub takes_append : (xs ys : List MTree) (k j : ℕ) (s m s' : T) → j ≡ k + length xs → Takes step k xs s m → Takes step j ys m s' → Takes step k (xs ++ ys) s s'
  takes_append [] ys k j s m s' e a b =
      let F : T → Type 0 = λ z. Takes step k ys z s' in
      let G : ℕ → Type 0 = λ i. Takes step i ys m s' in
      let f : j ≡ k = omega arith in
      subst F (sym a) (subst G f b)
  takes_append (x ∷ xs) ys k j s m s' e (u, st, a) b = (u, st, takes_append xs ys (k + 1) j u m s' (omega arith) a b)

-- trees in order end with those that they took
pub takes_listed : (ts : List MTree) (k : ℕ) (old new : List MTree) → Takes (λ (s : List MTree) (number : ℕ) (tree : MTree) (s' : List MTree). s' ≡ s ++ tree ∷ []) k ts old new → new ≡ old ++ ts
takes_listed [] k old new e = sym e ∙ sym (append-nil old)
takes_listed (t ∷ ts) k old new (m, e, h) = takes_listed ts (k + 1) m new h ∙ ap (λ (l : List MTree). l ++ ts) e ∙ append_assoc old (t ∷ []) ts
