-- What patterns meet at nodes, as goals at their trees, and what is added up over it.
use Rattle.std.proofs.Common.{◌≡◌, ℕ, ◌+◌, List, [], ◌∷◌, Option, Some, None, map}
use Rattle.lburg_model.specs.Pattern.{Goal}
use Rattle.op_forest.specs.Nodes.{Head, Node, Leaf, One, Two, nodes, tree_of}
use Rattle.vcode.specs.Patterns.{Meeting}

abbrev pub turned : Meeting → Goal
turned m = (m.0, tree_of m.1)

abbrev pub all_turned : Option (List Meeting) → Option (List Goal)
all_turned None = None
all_turned (Some ms) = Some (map turned ms)

-- a number of each tree that is met, added up
abbrev pub met_by : (Node → ℕ) → List Meeting → ℕ
met_by f [] = 0
met_by f (m ∷ ms) = f m.1 + met_by f ms

-- the nodes of the trees that are met
abbrev pub met : List Meeting → ℕ
met ms = met_by nodes ms

-- the number of a tree is the sum of its nodes' own
pub record IsSum (f : Node → ℕ) (own : Head → ℕ) : Type 0 where
  pub leaf : (h : Head) → f (Leaf h) ≡ own h
  pub one : (h : Head) (a : Node) → f (One h a) ≡ f a + own h
  pub two : (h : Head) (a b : Node) → f (Two h a b) ≡ f a + f b + own h
