use Rattle.std.proofs.Common.{◌≡◌, take, map}
use Rattle.lburg_model.specs.DerivationOf.{derivation_of}
use Rattle.tree_labeller.specs.MCells.{room}
use Rattle.reducer.specs.AreBest.{AreBest}
use Rattle.reducer.proofs.derivations.derive_trees.Given as goal

abbrev pub invariant-loop-tree : goal.invariant-loop-tree
invariant-loop-tree g l = record {
  best : AreBest l.t (map g.N.TreeNode.tree (take l.tree-index l.trees)) (map derivation_of l.all);
  nodes : room l.cells ≡ room l.initial.cells;
  nonterminals : l.cells.nonterminals ≡ l.initial.cells.nonterminals;
}
