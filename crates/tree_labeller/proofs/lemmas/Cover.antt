-- The cells tell the best derivation.
use Rattle.std.proofs.Common.{◌≡◌, ℕ, inl, inr, ⊎_elim, Some, None, List, sym, ap, ◌∙◌, arith, subst}
use Rattle.lburg_model.specs.declared.rule.Rule.{Rule}
use Rattle.lburg_model.specs.Tree.{MTree}
use Rattle.lburg_model.specs.Derivation.{MDerivation, Derives, cost, count, numbers}
use Rattle.lburg_model.specs.Best.{Earlier, Better, ByCost, ByCount, ByNumbers, IsBestOf}
use Rattle.lburg_tables.specs.declared.cell.Cell.{Cell}
use Rattle.tree_labeller.specs.Rows.{Row}
use Rattle.tree_labeller.specs.Labelled.{cell, Labelled}
use Rattle.tree_labeller.specs.Indexed.{Derivation, Less, erase}
use Rattle.tree_labeller.specs.Indexed.{ByCost as less_by_cost, ByCount as less_by_count, ByRules as less_by_rules, IsBest as is_best, cost as cost_i, count as count_i, numbers as numbers_i}
use Rattle.tree_labeller.proofs.lemmas.Greatest.{found, none}
use Rattle.tree_labeller.proofs.lemmas.Erased.{derives, indexed, cost_kept, count_kept, numbers_kept}
use Rattle.lburg_model.proofs.lemmas.Laws.{same_numbers}

better : (d : List Rule) (x y : MDerivation) (k m : ℕ) (xs : List ℕ) (k' m' : ℕ) (xs' : List ℕ) → Less k m xs k' m' xs' → cost d x ≡ k → count x ≡ m → numbers x ≡ xs → cost d y ≡ k' → count y ≡ m' → numbers y ≡ xs' → Better d x y
better d x y k m xs k' m' xs' (less_by_cost h) a b c a' b' c' = ByCost (omega arith)
better d x y k m xs k' m' xs' (less_by_count e h) a b c a' b' c' = ByCount (omega arith) (omega arith)
better d x y k m xs k' m' xs' (less_by_rules e f h) a b c a' b' c' =
    let F : List ℕ → Type 0 = λ z. Earlier z xs' in
    let G : List ℕ → Type 0 = λ z. Earlier (numbers x) z in
    ByNumbers (omega arith) (omega arith) (subst G (sym c') (subst F (sym c) h))

pub is_best_of : (d : List Rule) (n : ℕ) (t : MTree) (e : Derivation d n t) → is_best e → IsBestOf d n t (erase e)
is_best_of d n t e best = record {
  derives = derives e;
  others = λ y dy.
      let (f, same) = indexed d y n t dy in
      ⊎_elim
      (λ s. inl (same_numbers d n t (erase e) y (derives e) dy (numbers_kept e ∙ s ∙ sym (numbers_kept f) ∙ ap numbers same)))
      (λ l. inr (better d (erase e) y (cost_i e) (count_i e) (numbers_i e) (cost_i f) (count_i f) (numbers_i f) l (cost_kept e) (count_kept e) (numbers_kept e) (sym (ap (cost d) same) ∙ cost_kept f) (sym (ap count same) ∙ count_kept f) (sym (ap numbers same) ∙ numbers_kept f)))
      (best f);
}

module _ (rows : List Row) (d : List Rule) (w : ℕ) where
  -- the cell has the best derivation's cost and count
  pub cell_is_best : (n : ℕ) (t : MTree) (at : ℕ) (c : Cell) → Labelled rows d w at t → cell rows at n ≡ Some c → (x : MDerivation) × IsBestOf d n t x × (c.cost ≡ cost d x) × (c.count ≡ count x)
  cell_is_best n t at c l here =
      let (e, k, m, best) = found rows d w n t at c l here in
      (erase e, is_best_of d n t e best, sym k ∙ sym (cost_kept e), sym m ∙ sym (count_kept e))

  -- no cell, no derivation
  pub no_cell : (n : ℕ) (t : MTree) (at : ℕ) → Labelled rows d w at t → cell rows at n ≡ None → (x : MDerivation) → Derives d n t x → ⊥
  no_cell n t at l empty x dx = none rows d w n t at l empty (indexed d x n t dx).0
