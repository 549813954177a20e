use Rattle.std.proofs.Common.{◌≡◌, length, map}
use Rattle.std.proofs.lemmas.Result.{IfOk-weaker}
use Rattle.lburg_model.specs.DerivationOf.{derivation_of}
use Rattle.reducer.specs.AreBest.{AreBest}
use Rattle.reducer.proofs.Listed.{as_many}
use Rattle.reducer.proofs.derivations.best_derivations.Goals as goal

pub returns-clause-many : goal.returns-clause-many
returns-clause-many g c =
    let trees = c.args.trees.now in
    IfOk-weaker c.derive_all.result (λ xs. AreBest c.args.d.now (map g.N.TreeNode.tree trees) (map derivation_of xs)) (λ xs. length xs ≡ length trees)
    (λ xs are. as_many g.N.TreeNode.tree c.args.d.now trees xs are)
    c.derive_all.ensures
