-- Trees of operators: an operator with its symbol and constant, and no, one or two operands.
-- Source: Fraser and Hanson, A Retargetable C Compiler, chapter 5.
use Rattle.std.specs.Prelude.{ℕ, ◌+◌, ℤ, Option, List, [], ◌∷◌, Bool, true, false}
use Rattle.lburg_model.specs.Tree.{MTree, TLeaf, TOne, TTwo}
use Rattle.op_forest.specs.declared.operator.Operator.{Operator}
use Rattle.op_forest.specs.declared.sym.Sym.{Sym}
use Rattle.op_forest.specs.Operators.{number}
use Rattle.op_forest.specs.Signature.{gives_value}

-- what stands at a node beside its operands
pub record Head : Type 0 where
  pub operator : Operator
  pub sym : Sym
  pub value : Option ℤ

pub data Node : Type 0 where
  Leaf : (head : Head) → Node
  One : (head : Head) (a : Node) → Node
  Two : (head : Head) (a b : Node) → Node

abbrev pub head_of : Node → Head
head_of (Leaf h) = h
head_of (One h a) = h
head_of (Two h a b) = h

-- the operands, from left to right
abbrev pub kids_of : Node → List Node
kids_of (Leaf h) = []
kids_of (One h a) = a ∷ []
kids_of (Two h a b) = a ∷ b ∷ []

abbrev pub nodes : Node → ℕ
nodes (Leaf h) = 1
nodes (One h a) = nodes a + 1
nodes (Two h a b) = nodes a + nodes b + 1

-- whether the operator gives a value
abbrev pub gives : Head → Bool
gives h = gives_value h.operator.op h.operator.suffix

abbrev pub one_where : Bool → ℕ
one_where true = 1
one_where false = 0

-- how many nodes give a value
abbrev pub value_nodes : Node → ℕ
value_nodes (Leaf h) = one_where (gives h)
value_nodes (One h a) = value_nodes a + one_where (gives h)
value_nodes (Two h a b) = value_nodes a + value_nodes b + one_where (gives h)

abbrev pub number_of : Head → ℕ
number_of h = number h.operator.op h.operator.suffix

-- the tree that a description covers: each operator by its number
abbrev pub tree_of : Node → MTree
tree_of (Leaf h) = TLeaf (number_of h) h.value
tree_of (One h a) = TOne (number_of h) h.value (tree_of a)
tree_of (Two h a b) = TTwo (number_of h) h.value (tree_of a) (tree_of b)
