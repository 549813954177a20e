-- Lemmas: what the rows say of a tree.
use Rattle.std.proofs.Common.{◌<◌, arith}
use Rattle.lburg_model.specs.Tree.{MTree, TLeaf, TOne, TTwo, nodes}

pub nodes_pos : (t : MTree) → 0 < nodes t
nodes_pos (TLeaf op v) = omega arith
nodes_pos (TOne op v a) = omega arith
nodes_pos (TTwo op v a b) = omega arith
