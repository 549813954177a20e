-- Derivations of one nonterminal at one tree are in order.
use Rattle.std.proofs.Common.{◌≡◌, ℕ, ◌<◌, ◌≤◌, inl, inr, ⊎_elim, List, [], ◌∷◌, ◌++◌, sym, ap, ◌∙◌, arith, append-nil}
use Rattle.std.proofs.lemmas.Bool.{cases_lt}
use Rattle.lburg_model.specs.declared.rule.Rule.{Rule}
use Rattle.lburg_model.specs.Tree.{MTree}
use Rattle.lburg_model.specs.Derivation.{MDerivation, Derives, cost, count, numbers}
use Rattle.lburg_model.specs.Best.{Earlier}
use Rattle.lburg_model.proofs.lemmas.Laws.{same_front}
use Rattle.plain_cover.specs.Told.{told}
use Rattle.plain_cover.specs.Less.{Less, ByCost, ByCount, ByNumbers, Upto}

-- two lists differ, or one begins with the other
data Order (xs ys : List ℕ) : Type 0 where
  First : Earlier xs ys → Order xs ys
  Second : Earlier ys xs → Order xs ys
  Begins : (us vs : List ℕ) → xs ++ us ≡ ys ++ vs → Order xs ys

order : (xs ys : List ℕ) → Order xs ys
order [] ys = Begins ys [] (let e = append-nil ys in sym e)
order (x ∷ xs) [] = Begins [] (x ∷ xs) (append-nil (x ∷ xs))
order (x ∷ xs) (y ∷ ys) =
    ⊎_elim
    (λ (lt : x < y). First (inl lt))
    (λ (ge : y ≤ x).
    ⊎_elim
    (λ (gt : y < x). Second (inl gt))
    (λ (le : x ≤ y). let e : x ≡ y = omega arith in
    elim (order xs ys) [ First h ↦ First (inr (e, h)) | Second h ↦ Second (inr (sym e, h)) | Begins us vs h ↦ Begins us vs (ap (λ (z : ℕ). z ∷ (xs ++ us)) e ∙ ap (λ (z : List ℕ). y ∷ z) h) ])
    (cases_lt y x))
    (cases_lt x y)

-- of two derivations, one that isn't greater comes first
pub told_in_order : (rules : List Rule) (n : ℕ) (t : MTree) (x y : MDerivation) → Derives rules n t x → Derives rules n t y → (Less (told rules y) (told rules x) → ⊥) → Upto (told rules x) (told rules y)
told_in_order rules n t x y a b not_less =
    ⊎_elim
    (λ (h : cost rules x < cost rules y). inr (ByCost h))
    (λ (h : cost rules y ≤ cost rules x).
    ⊎_elim
    (λ (k : cost rules y < cost rules x). absurd (not_less (ByCost k)))
    (λ (k : cost rules x ≤ cost rules y).
    let e : cost rules x ≡ cost rules y = omega arith in
    ⊎_elim
    (λ (l : count x < count y). inr (ByCount e l))
    (λ (l : count y ≤ count x).
    ⊎_elim
    (λ (m : count y < count x). absurd (not_less (ByCount (sym e) m)))
    (λ (m : count x ≤ count y).
    let f : count x ≡ count y = omega arith in
    elim (order (numbers x) (numbers y)) [
      | First o ↦ inr (ByNumbers e f o)
      | Second o ↦ absurd (not_less (ByNumbers (sym e) (sym f) o))
      | Begins us vs o ↦ inl (ap (told rules) (same_front rules n t x y us vs a b o).0)
    ])
    (cases_lt (count y) (count x)))
    (cases_lt (count x) (count y)))
    (cases_lt (cost rules y) (cost rules x)))
    (cases_lt (cost rules x) (cost rules y))
