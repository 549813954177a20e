use Rattle.std.specs.Prelude.{◌≡◌, length}
use Rattle.std.proofs.Common.{arith, ◌∙◌}
use Rattle.std.proofs.lemmas.Result.{IfOk-weaker}
use Rattle.statement_steps.proofs.lemmas.Labelling.{no_place, place_found}
use Rattle.statement_steps.proofs.labels.Labels.number.Goals as goal

pub returns-in-Some : goal.returns-in-Some
returns-in-Some c =
    let found = place_found c.self.inside.list.items c.args.self.now _ c.args.label c.in-Some.place.now c.self.view_is (c.self.invariant.is c.args.label) c.in-Some.ensures.value in
    IfOk-weaker c.number.result _ _ (λ n e. e ∙ found) c.number.ensures

pub returns-in-None : goal.returns-in-None
returns-in-None c =
    let list = c.self.inside.list in
    let none = no_place list.items c.args.self.now _ c.args.label c.self.view_is (c.self.invariant.is c.args.label) c.in-None.ensures.value in
    let count : c.len.result ≡ length list.items = omega (arith, c.len.ensures, list.ok.0) in
    IfOk-weaker c.number-in-None.result _ _ (λ n e. e ∙ count ∙ none) c.number-in-None.ensures
