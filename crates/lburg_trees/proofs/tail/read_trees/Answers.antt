use Rattle.std.proofs.Common.{◌≡◌, ◌∙◌, List, ◌++◌, sym, ap, subst}
use Rattle.std.proofs.lemmas.Result.{err_from_is_err_and}
use Rattle.lburg_model.specs.Tree.{MTree}
use Rattle.lburg_trees.specs.TailText.{IsTail}
use Rattle.lburg_trees.proofs.Taken.{takes_listed}
use Rattle.lburg_trees.proofs.tail.read_trees.Goals as goal

pub returns-in_err-take_trees-clause-only : goal.returns-in_err-take_trees-clause-only
returns-in_err-take_trees-clause-only c = λ trees h.
    let p = err_from_is_err_and c.from_residual.result c.from_residual.ensures.1 in
    rw (p.1, p.2) (c.in_err-take_trees.ensures.only trees h)

pub returns-clause-found : goal.returns-clause-found
returns-clause-found c =
    let (trees, is, run) = c.in_ok-take_trees.ensures.found in
    let from_none : c.take_trees.new.taker ≡ trees = takes_listed trees 1 _ _ run ∙ ap (λ (l : List MTree). l ++ trees) c.new-trees.ensures in
    let Tail : List MTree → Type 0 = λ ts. IsTail c.args.d.now ts c.args.text.now in
    subst Tail (sym from_none) is

pub returns-clause-one : goal.returns-clause-one
returns-clause-one c = λ trees h.
    takes_listed trees 1 _ _ (c.in_ok-take_trees.ensures.one trees h) ∙ ap (λ (l : List MTree). l ++ trees) c.new-trees.ensures
