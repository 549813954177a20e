use Rattle.std.proofs.Common.{ap, subst}
use Rattle.lburg_model.specs.Pattern.{MPattern, pattern_of}
use Rattle.tree_labeller.specs.Labelled.{Ready}
use Rattle.tree_labeller.specs.Totals.{hole_bounded}
use Rattle.tree_labeller.proofs.matching.+total.Goals as goal

pub total_at-returns-in-Nonterminal-clause-bounded : goal.total_at-returns-in-Nonterminal-clause-bounded
total_at-returns-in-Nonterminal-clause-bounded g t c =
    let tree = g.N.TreeNode.tree c.args.tree.now in
    let F : MPattern → Type 0 = λ p. Ready c.args.labels.now.board.now.rows c.args.labels.now.rules.now c.args.labels.now.board.now.nonterminals c.args.at tree p in
    hole_bounded c.args.labels.now.board.now.rows c.args.labels.now.rules.now c.args.labels.now.board.now.nonterminals c.args.at tree c.in-Nonterminal.n (subst F (ap pattern_of c.in-Nonterminal.is) c.requires.ready) c.key_at.result c.key_at.ensures

pub part_total_at-returns-in-Nonterminal-clause-bounded : goal.part_total_at-returns-in-Nonterminal-clause-bounded
part_total_at-returns-in-Nonterminal-clause-bounded g t c =
    let tree = g.N.TreeNode.tree c.args.tree.now in
    let F : MPattern → Type 0 = λ p. Ready c.args.labels.now.board.now.rows c.args.labels.now.rules.now c.args.labels.now.board.now.nonterminals c.args.at tree p in
    hole_bounded c.args.labels.now.board.now.rows c.args.labels.now.rules.now c.args.labels.now.board.now.nonterminals c.args.at tree c.in-Nonterminal.n (subst F (ap pattern_of c.in-Nonterminal.is) c.requires.ready) c.key_at.result c.key_at.ensures
