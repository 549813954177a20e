use Rattle.std.proofs.Common.{List, length, sym, ap, ◌∙◌, subst, arith}
use Rattle.lburg_model.specs.declared.rule.Rule.{Rule}
use Rattle.lburg_model.specs.Description.{MDescription}
use Rattle.tree_labeller.specs.MCells.{MCells}
use Rattle.lburg_tables.specs.AreRules.{AreRules}
use Rattle.lburg_tables.proofs.lemmas.AreRules.{are_rules}
use Rattle.tree_labeller.proofs.Room.{small_area, narrow_rows}
use Rattle.tree_labeller.proofs.Counting.{most_trials}
use Rattle.tree_labeller.proofs.labeller.label.Goals as goal

pub label_at-requires-clause-are : goal.label_at-requires-clause-are
label_at-requires-clause-are g c =
    let board = c.cells.inside.board in
    let d = c.description.result.now in
    let tree = g.N.TreeNode.tree c.args.tree.now in
    let wide = ap (λ (k : MCells). k.nonterminals) c.cells.view_is in
    let many = ap (λ (k : MCells). length k.rows) c.cells.view_is in
    let names = ap (λ (z : MDescription). length z.nonterminals) c.description.ensures.value in
    let room = c.requires.nodes in
    let enough = c.requires.nonterminals in
    let F : List Rule → Type 0 = λ rs. AreRules rs board.nonterminals in
    subst F (sym c.rules.ensures.value)
    (are_rules d board.nonterminals c.rules.ensures.is (omega arith) (narrow_rows board.nonterminals (length board.rows) tree c.cells.invariant.small (omega arith)))

pub label_at-requires-clause-named : goal.label_at-requires-clause-named
label_at-requires-clause-named g c =
    let d = c.args.t.now in
    let same = c.rules.ensures.value ∙ ap (λ (z : MDescription). z.rules) c.description.ensures.value in
    let most = c.description.ensures.is.nonterminals in
    let F : List Rule → Type 0 = λ rs. AreRules rs (length d.nonterminals) in
    subst F (sym same) (are_rules d (length d.nonterminals) c.description.ensures.is (omega arith) (omega arith))

pub label_at-requires-clause-small : goal.label_at-requires-clause-small
label_at-requires-clause-small g c =
    let board = c.cells.inside.board in
    let many = ap (λ (k : MCells). length k.rows) c.cells.view_is in
    let room = c.requires.nodes in
    small_area board.nonterminals (length board.rows) (g.N.TreeNode.tree c.args.tree.now) c.cells.invariant.small (omega arith)

pub returns-clause-steps : goal.returns-clause-steps
returns-clause-steps g c =
    let tree = g.N.TreeNode.tree c.args.tree.now in
    let (many, trials, steps) = c.label_at.ensures.trials in
    let most = most_trials c.args.t.now tree many trials in
    omega arith
