use Rattle.std.proofs.Common.{◌≡◌, ◌∙◌, ℕ, ◌+◌, List, ◌++◌, sym, ap, subst, arith}
use Rattle.lburg_model.specs.Description.{MDescription}
use Rattle.lburg_model.specs.CoverText.{AreCoverLines}
use Rattle.lburg_tool.proofs.CoverLines.{covered}
use Rattle.lburg_tool.proofs.Refused.{tail_told}
use Rattle.lburg_tool.proofs.cover.cover_trees.Goals as goal

pub returns-in_err-take_trees-clause-refused : goal.returns-in_err-take_trees-clause-refused
returns-in_err-take_trees-clause-refused g c = λ why told.
    let answer = c.from_residual-in_err-take_trees in
    tail_told answer.result c.args.description.now c.args.input.now _ why c.in_err-take_trees.ensures.fault answer.ensures.1 told

pub returns-clause-found : goal.returns-clause-found
returns-clause-found g c =
    let d = c.args.description.now in
    let new = c.take_trees.new.taker in
    let (trees, tail, run) = c.in_ok-take_trees.ensures.found in
    let (fine, text, many, lines, parts, sum) = covered new _ (λ x. x.tables.now) (λ x. x.printer) (λ x. x.uncovered) trees 1 run c.if-is_refused.false in
    let Described : MDescription → Type 0 = λ e. AreCoverLines e 1 trees text many in
    let Counted : ℕ → Type 0 = λ n. AreCoverLines d 1 trees text n in
    let Written : List ℕ → Type 0 = λ l. AreCoverLines d 1 trees l new.uncovered in
    let whole : new.printer.text ≡ text = parts ∙ ap (λ (l : List ℕ). l ++ text) c.new-2.ensures.text in
    let all : new.uncovered ≡ many = (let from_none : new.uncovered ≡ 0 + many = sum in omega arith) in
    (trees, tail, subst Written (sym whole) (subst Counted (sym all) (subst Described c.in_ok-tables.ensures lines)))
