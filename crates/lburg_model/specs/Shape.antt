-- A tree of its parts, and parts of a tree.
use Rattle.std.specs.Prelude.{ℕ, ◌+◌, ◌≤◌, Option, None, Some, ℤ, Bool, true, false, List, [], ◌∷◌, length}
use Rattle.std.proofs.Common.{arith}
use denote.Param.Weighed.{most}
use Rattle.lburg_model.specs.Tree.{MTree, TLeaf, TOne, TTwo, nodes}

-- the constant that a mark and a number tell
abbrev pub constant_of : Bool → ℤ → Option ℤ
constant_of false v = None
constant_of true v = Some v

-- the tree with this operator, constant and operands, of which there are at most two
abbrev pub tree_of : ℕ → Option ℤ → List MTree → MTree
tree_of op v [] = TLeaf op v
tree_of op v (a ∷ []) = TOne op v a
tree_of op v (a ∷ b ∷ rest) = TTwo op v a b

-- no operand has as many nodes as the whole
pub most_le_nodes : (op : ℕ) (v : Option ℤ) (kids : List MTree) → length kids ≤ 2 → most (λ k. nodes k + 1) kids ≤ nodes (tree_of op v kids)
most_le_nodes op v [] h = omega arith
most_le_nodes op v (a ∷ []) h = omega arith
most_le_nodes op v (a ∷ b ∷ []) h = omega arith
most_le_nodes op v (a ∷ b ∷ c ∷ rest) h = absurd (omega arith)
