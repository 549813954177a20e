-- The best derivation of a tree from the start symbol: each other one is greater by cost, or at equal cost by
-- count, or at equal count by the smaller rule number at the first difference of their numbers in preorder.
use Rattle.std.specs.Prelude.{◌≡◌, ℕ, ◌<◌, ◌⊎◌, List, [], ◌∷◌}
use Rattle.lburg_model.specs.declared.rule.Rule.{Rule}
use Rattle.lburg_model.specs.Tree.{MTree}
use Rattle.lburg_model.specs.Description.{MDescription}
use Rattle.lburg_model.specs.Derivation.{MDerivation, Derives, cost, count, numbers}

-- smaller at the first difference
abbrev pub Earlier : List ℕ → List ℕ → Type 0
Earlier [] ys = ⊥
Earlier (x ∷ xs) [] = ⊥
Earlier (x ∷ xs) (y ∷ ys) = (x < y) ⊎ ((x ≡ y) × Earlier xs ys)

-- the first is better than the second
pub data Better (rules : List Rule) (x y : MDerivation) : Type 0 where
  ByCost : cost rules x < cost rules y → Better rules x y
  ByCount : cost rules x ≡ cost rules y → count x < count y → Better rules x y
  ByNumbers : cost rules x ≡ cost rules y → count x ≡ count y → Earlier (numbers x) (numbers y) → Better rules x y

-- the best derivation of a nonterminal
pub record IsBestOf (rules : List Rule) (n : ℕ) (t : MTree) (x : MDerivation) : Type 0 where
  pub derives : Derives rules n t x
  pub others : (y : MDerivation) → Derives rules n t y → (x ≡ y) ⊎ Better rules x y

abbrev pub IsBest : MDescription → MTree → MDerivation → Type 0
IsBest d t x = IsBestOf d.rules d.start t x

-- no derivation of the tree from the start symbol exists
abbrev pub HasNone : MDescription → MTree → Type 0
HasNone d t = (x : MDerivation) → Derives d.rules d.start t x → ⊥
