-- The least of the derivations within a tree's room is the best of all.
use Rattle.std.proofs.Common.{◌≡◌, ℕ, ◌<◌, ◌≤◌, Option, Some, None, List, [], ◌++◌, ap, arith, subst, inl, inr, ◌⊎◌, ⊎_elim}
use Rattle.std.specs.Prelude.{slice_get, length, IfSome, IfNone}
use Rattle.lburg_model.specs.Description.{MDescription, IsDescription}
use Rattle.plain_cover.specs.AreRules.{AreRules}
use Rattle.std.proofs.lemmas.Bool.{cases_lt}
use Rattle.lburg_model.specs.declared.rule.Rule.{Rule}
use Rattle.lburg_model.specs.Tree.{MTree}
use Rattle.lburg_model.specs.Derivation.{MDerivation, Derives, cost, count}
use Rattle.lburg_model.specs.Best.{Better, IsBestOf, IsBest, HasNone}
use Rattle.lburg_model.specs.Best as best
use Rattle.plain_cover.specs.declared.plain.Found.{Found}
use Rattle.plain_cover.specs.Room.{room}
use Rattle.plain_cover.specs.Told.{told}
use Rattle.plain_cover.specs.Less.{Less, ByCost, ByCount, ByNumbers, Upto}
use Rattle.plain_cover.specs.IsLeastOf.{IsLeastOf}
use Rattle.plain_cover.specs.Within.{Within}
use Rattle.plain_cover.proofs.Cutting.{trim}
use Rattle.plain_cover.proofs.Order.{upto_trans}
use Rattle.lburg_model.proofs.lemmas.Laws.{same_front}

better : (rules : List Rule) (x y : MDerivation) → Less (told rules x) (told rules y) → Better rules x y
better rules x y (ByCost a) = best.ByCost a
better rules x y (ByCount a b) = best.ByCount a b
better rules x y (ByNumbers a b c) = best.ByNumbers a b c

same_or_better : (rules : List Rule) (n : ℕ) (t : MTree) (x y : MDerivation) → Derives rules n t x → Derives rules n t y → Upto (told rules x) (told rules y) → (x ≡ y) ⊎ Better rules x y
same_or_better rules n t x y a b (inl e) = inl (same_front rules n t x y [] [] a b (ap (λ (z : Found). z.numbers ++ []) e)).0
same_or_better rules n t x y a b (inr h) = inr (better rules x y h)

trimmed_upto : (rules : List Rule) (x y : MDerivation) → cost rules x ≤ cost rules y → (x ≡ y) ⊎ (count x < count y) → Upto (told rules x) (told rules y)
trimmed_upto rules x y c (inl e) = inl (ap (told rules) e)
trimmed_upto rules x y c (inr h) = ⊎_elim (λ (lt : cost rules x < cost rules y). inr (ByCost lt)) (λ (ge : cost rules y ≤ cost rules x). inr (ByCount (omega arith) h)) (cases_lt (cost rules x) (cost rules y))

module _ (rules : List Rule) (q : ℕ) (lefts : (i : ℕ) (r : Rule) → slice_get rules i ≡ Some r → r.left < q) where
  pub none_at_all : (n : ℕ) (t : MTree) → IsLeastOf (told rules) (Within rules n t (room q t)) None → (x : MDerivation) → Derives rules n t x → ⊥
  none_at_all n t none x d = let y = trim rules q lefts n t x d in none y.to (y.derives, y.low)

  pub best_of_all : (n : ℕ) (t : MTree) (f : Found) → IsLeastOf (told rules) (Within rules n t (room q t)) (Some f) → (x : MDerivation) × IsBestOf rules n t x × (f ≡ told rules x)
  best_of_all n t f (x, w, e, others) = (
    x,
    record {
      derives = w.0;
      others = λ y d.
          let z = trim rules q lefts n t y d in
          let a : Upto (told rules x) (told rules z.to) = subst (λ (k : Found). Upto k (told rules z.to)) e (others z.to (z.derives, z.low)) in
          same_or_better rules n t x y w.0 d (upto_trans (told rules x) (told rules z.to) (told rules y) a (trimmed_upto rules z.to y z.cheap z.less));
    },
    e,
  )

pub are_rules : (d : MDescription) → IsDescription d → AreRules d.rules
are_rules d is = record { few = is.rule_limit; cheap = λ i r at. (is.rules i r at).cost; short = λ i r at. (is.rules i r at).nodes }

pub found_best : (d : MDescription) → IsDescription d → (t : MTree) (o : Option Found) → IsLeastOf (told d.rules) (Within d.rules d.start t (room (length d.nonterminals) t)) o → IfSome o (λ f. (x : MDerivation) × IsBest d t x × (f ≡ told d.rules x))
found_best d is t None h = tt
found_best d is t (Some f) h = best_of_all d.rules (length d.nonterminals) (λ i r at. (is.rules i r at).left) d.start t f h

pub found_none : (d : MDescription) → IsDescription d → (t : MTree) (o : Option Found) → IsLeastOf (told d.rules) (Within d.rules d.start t (room (length d.nonterminals) t)) o → IfNone o (HasNone d t)
found_none d is t None h = none_at_all d.rules (length d.nonterminals) (λ i r at. (is.rules i r at).left) d.start t h
found_none d is t (Some f) h = tt
