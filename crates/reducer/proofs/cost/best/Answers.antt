use Rattle.std.proofs.Common.{◌≡◌, ap, ◌∙◌}
use Rattle.lburg_model.specs.Description.{MDescription}
use Rattle.reducer.proofs.Kept.{start_best}
use Rattle.reducer.proofs.cost.best.Goals as goal

pub returns-in-Some-clause-some : goal.returns-in-Some-clause-some
returns-in-Some-clause-some g c = λ tree labelled.
    let d = c.args.t.now in
    let start : c.start-start.result ≡ d.start = c.start-start.ensures.value ∙ ap (λ (z : MDescription). z.start) c.description.ensures.value in
    start_best d c.args.cells.now c.labels_in.result.board.now c.start-start.result c.cell.result c.in-Some.c c.from.result tree c.labels_in.ensures.board start c.cell.ensures c.in-Some.is c.from.ensures labelled
