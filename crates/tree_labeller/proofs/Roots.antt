-- What a pattern's root tells.
use Rattle.std.proofs.Common.{◌≡◌, ℕ, Some, List, ap}
use Rattle.lburg_model.specs.Tree.{MTree, TLeaf, TOne, TTwo, op_of}
use Rattle.lburg_model.specs.Pattern.{MPattern, PHole, PLeaf, POne, PTwo}
use Rattle.lburg_tables.specs.Root.{Operator, root_of}
use Rattle.place_queue.specs.declared.key.Key.{Key}
use Rattle.tree_labeller.specs.Rows.{Row}
use Rattle.tree_labeller.specs.Labelled.{base_total}
use Rattle.tree_labeller.specs.Totals.{fitted}

pub operator_of : (rows : List Row) (q : MPattern) (t : MTree) (at : ℕ) (k : Key) → base_total rows q t at ≡ Some k → root_of q ≡ Operator (op_of t)
operator_of rows (PHole n) t at k e = cc
operator_of rows (PLeaf op) (TLeaf op' v) at k e = ap Operator (fitted op op' _ k e).0
operator_of rows (PLeaf op) (TOne op' v a) at k e = cc
operator_of rows (PLeaf op) (TTwo op' v a b) at k e = cc
operator_of rows (POne op p) (TLeaf op' v) at k e = cc
operator_of rows (POne op p) (TOne op' v a) at k e = ap Operator (fitted op op' _ k e).0
operator_of rows (POne op p) (TTwo op' v a b) at k e = cc
operator_of rows (PTwo op p q) (TLeaf op' v) at k e = cc
operator_of rows (PTwo op p q) (TOne op' v a) at k e = cc
operator_of rows (PTwo op p q) (TTwo op' v a b) at k e = ap Operator (fitted op op' _ k e).0
