-- Whether expressions are straight, in the order in which they are lowered: an expression's own mark, and then those of its parts.
-- Source: Aho, Lam, Sethi and Ullman, Compilers, 2.3 (preorder).
use Rattle.std.specs.Prelude.{Bool, List, [], ◌∷◌, ◌++◌}
use Rattle.c_meaning.specs.CoreTrees.{Core, NoCore, Cores}
use Rattle.c_meaning.specs.Values.{CoreTree, CoreTrees}
use Rattle.lowered_forms.specs.Straight.{straight}

abbrev mutual
  pub marks : CoreTree → List Bool
  marks (Core what of line kids) = straight (Core what of line kids) ∷ all_marks kids

  pub all_marks : CoreTrees → List Bool
  all_marks NoCore = []
  all_marks (Cores c cs) = marks c ++ all_marks cs
