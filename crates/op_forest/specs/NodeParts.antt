-- A node of its parts.
use Rattle.std.specs.Prelude.{◌+◌, ◌≤◌, Option, ℤ, List, [], ◌∷◌, length}
use Rattle.std.proofs.Common.{arith}
use denote.Param.Weighed.{most}
use Rattle.op_forest.specs.declared.operator.Operator.{Operator}
use Rattle.op_forest.specs.declared.sym.Sym.{Sym}
use Rattle.op_forest.specs.Nodes.{Head, Node, Leaf, One, Two, nodes}

abbrev pub under : Head → List Node → Node
under h [] = Leaf h
under h (a ∷ []) = One h a
under h (a ∷ b ∷ rest) = Two h a b

-- the node with this operator, symbol, constant and operands, of which there are at most two
abbrev pub node_of : Operator → Sym → Option ℤ → List Node → Node
node_of operator sym value kids = under (record { operator = operator; sym = sym; value = value }) kids

-- no operand has as many nodes as the whole
pub most_le_nodes : (operator : Operator) (sym : Sym) (value : Option ℤ) (kids : List Node) → length kids ≤ 2 → most (λ k. nodes k + 1) kids ≤ nodes (node_of operator sym value kids)
most_le_nodes operator sym value [] h = omega arith
most_le_nodes operator sym value (a ∷ []) h = omega arith
most_le_nodes operator sym value (a ∷ b ∷ []) h = omega arith
most_le_nodes operator sym value (a ∷ b ∷ c ∷ rest) h = absurd (omega arith)
