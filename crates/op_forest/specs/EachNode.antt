-- What holds at each node of a tree, and at some node.
use Rattle.std.specs.Prelude.{◌⊎◌}
use Rattle.op_forest.specs.Nodes.{Node, Leaf, One, Two}

abbrev pub AtEachNode : (Node → Type 0) → Node → Type 0
AtEachNode P (Leaf h) = P (Leaf h)
AtEachNode P (One h a) = P (One h a) × AtEachNode P a
AtEachNode P (Two h a b) = P (Two h a b) × AtEachNode P a × AtEachNode P b

abbrev pub AtSomeNode : (Node → Type 0) → Node → Type 0
AtSomeNode P (Leaf h) = P (Leaf h)
AtSomeNode P (One h a) = P (One h a) ⊎ AtSomeNode P a
AtSomeNode P (Two h a b) = P (Two h a b) ⊎ AtSomeNode P a ⊎ AtSomeNode P b
