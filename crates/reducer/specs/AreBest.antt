-- The best derivations of trees from the start symbol: one for each tree, in their order.
use Rattle.std.specs.Prelude.{List, [], ◌∷◌}
use Rattle.lburg_model.specs.Tree.{MTree}
use Rattle.lburg_model.specs.Description.{MDescription}
use Rattle.lburg_model.specs.Derivation.{MDerivation}
use Rattle.lburg_model.specs.Best.{IsBest}

abbrev pub AreBest : MDescription → List MTree → List MDerivation → Type 0
AreBest d [] [] = Unit {0}
AreBest d [] (x ∷ xs) = ⊥
AreBest d (t ∷ ts) [] = ⊥
AreBest d (t ∷ ts) (x ∷ xs) = IsBest d t x × AreBest d ts xs
