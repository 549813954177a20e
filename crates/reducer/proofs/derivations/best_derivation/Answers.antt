use Rattle.std.proofs.Common.{◌≡◌, ap, ◌∙◌}
use Rattle.std.proofs.lemmas.Result.{IfOk-weaker}
use Rattle.lburg_model.specs.Description.{MDescription}
use Rattle.lburg_model.specs.DerivationOf.{derivation_of}
use Rattle.lburg_model.specs.Best.{IsBest}
use Rattle.reducer.specs.Built.{Built}
use Rattle.reducer.proofs.Values.{best_value}
use Rattle.reducer.proofs.derivations.best_derivation.Goals as goal

pub returns : goal.returns
returns g c =
    let d = c.args.t.now in
    let labels = c.labels_in-labels in
    let start : c.start.result ≡ d.start = c.start.ensures.value ∙ ap (λ (z : MDescription). z.start) c.description.ensures.value in
    let board = labels.result.board.now in
    let rules = labels.result.rules.now in
    let T = g.N.TreeNode.tree c.args.tree.now in
    IfOk-weaker c.derivation_at.result (Built board.rows rules c.start.result T 0) (λ x. IsBest d T (derivation_of x)) (λ x built. best_value d c.args.cells.now board rules c.start.result T x labels.ensures.board labels.ensures.rules start c.requires.labelled built) c.derivation_at.ensures
