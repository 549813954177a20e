-- Trees: an operator with its constant, if it has one, and its operands.
-- Source: Fraser and Hanson, A Retargetable C Compiler, chapter 5 (nodes) and chapter 14.
use Rattle.std.specs.Prelude.{ℕ, ◌+◌, Option, ℤ, List, [], ◌∷◌}

-- an operator is the place of its terminal in the declarations, from 1
pub data MTree : Type 0 where
  TLeaf : (op : ℕ) (value : Option ℤ) → MTree
  TOne : (op : ℕ) (value : Option ℤ) (a : MTree) → MTree
  TTwo : (op : ℕ) (value : Option ℤ) (a b : MTree) → MTree

abbrev pub nodes : MTree → ℕ
nodes (TLeaf op v) = 1
nodes (TOne op v a) = nodes a + 1
nodes (TTwo op v a b) = nodes a + nodes b + 1

abbrev pub op_of : MTree → ℕ
op_of (TLeaf op v) = op
op_of (TOne op v a) = op
op_of (TTwo op v a b) = op

abbrev pub value_of : MTree → Option ℤ
value_of (TLeaf op v) = v
value_of (TOne op v a) = v
value_of (TTwo op v a b) = v

-- the operands, from left to right
abbrev pub kids_of : MTree → List MTree
kids_of (TLeaf op v) = []
kids_of (TOne op v a) = a ∷ []
kids_of (TTwo op v a b) = a ∷ b ∷ []
