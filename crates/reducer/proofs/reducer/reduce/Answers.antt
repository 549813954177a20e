use Rattle.std.proofs.Common.{◌≡◌, ap, ◌∙◌}
use Rattle.lburg_model.specs.Description.{MDescription}
use Rattle.reducer.proofs.BestRun.{best_run}
use Rattle.reducer.proofs.reducer.reduce.Goals as goal

pub returns : goal.returns
returns g c =
    let d = c.args.t.now in
    let labels = c.labels_in-labels in
    let start : c.start.result ≡ d.start = c.start.ensures.value ∙ ap (λ (z : MDescription). z.start) c.description.ensures.value in
    record { visits = best_run g.N.TreeNode.tree g.V.Visitor.takes d c.args.cells.now labels.result.board.now labels.result.rules.now c.start.result (g.N.TreeNode.tree c.args.tree.now) c.args.visitor.now c.reduce_at.new.visitor labels.ensures.board labels.ensures.rules start c.requires.labelled c.reduce_at.ensures }
