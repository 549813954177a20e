use Rattle.std.proofs.Common.{get_or, subst}
use Rattle.lburg_model.specs.Description.{MDescription}
use Rattle.lburg_model.specs.Best.{HasNone}
use Rattle.reducer.proofs.derivations.derive_all.Goals as goal

pub derive_trees-requires-clause-covered : goal.derive_trees-requires-clause-covered
derive_trees-requires-clause-covered g c = λ k x inside none.
    let None : MDescription → Type 0 = λ d. HasNone d (g.N.TreeNode.tree (get_or c.args.trees.now k x)) in
    c.requires.covered k x inside (subst None c.in_ok-t.ensures none)
