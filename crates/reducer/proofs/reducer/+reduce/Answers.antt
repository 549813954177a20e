use Rattle.std.proofs.Common.{◌≢◌, ℕ, ◌+◌, None, refl, sym, ap, subst}
use Rattle.lburg_model.specs.Pattern.{MPattern, pattern_of}
use Rattle.lburg_model.specs.declared.pattern.Pattern.{Pattern}
use Rattle.tree_labeller.specs.Labelled.{total}
use Rattle.reducer.specs.Reduced.{Walked}
use Rattle.reducer.proofs.Visits.{reduced, walked_hole, walked_leaf, walked_one, walked_two}
use Rattle.reducer.proofs.reducer.+reduce.Goals as goal

pub reduce_at-returns : goal.reduce_at-returns
reduce_at-returns g t c =
    reduced g.N.TreeNode.tree g.V.Visitor.takes c.args.labels.now.board.now.rows c.args.labels.now.rules.now c.args.labels.now.board.now.nonterminals c.args.n (g.N.TreeNode.tree c.args.tree.now) c.args.at c.choice-choice.result.number c.choice-choice.result.rule.now c.args.tree.now c.args.visitor.now c.rule.new.self c.walk.new.visitor c.requires.labelled c.requires.some c.choice-choice.ensures.chosen c.choice-choice.ensures.rule refl c.rule.ensures c.walk.ensures

pub walk-returns-in-Nonterminal : goal.walk-returns-in-Nonterminal
walk-returns-in-Nonterminal g t c =
    let F : MPattern → Type 0 = λ p. Walked c.args.labels.now.board.now.rows c.args.labels.now.rules.now g.N.TreeNode.tree g.V.Visitor.takes p (g.N.TreeNode.tree c.args.tree.now) c.args.at c.args.visitor.now c.reduce_at.new.visitor in
    subst F (sym (ap pattern_of c.in-Nonterminal.is)) (walked_hole g.N.TreeNode.tree g.V.Visitor.takes c.args.labels.now.board.now.rows c.args.labels.now.rules.now c.args.labels.now.board.now.nonterminals c.in-Nonterminal.n (g.N.TreeNode.tree c.args.tree.now) c.args.at c.args.visitor.now c.reduce_at.new.visitor c.reduce_at.ensures)

pub walk-returns-in-Leaf : goal.walk-returns-in-Leaf
walk-returns-in-Leaf g t c =
    let F : MPattern → Type 0 = λ p. Walked c.args.labels.now.board.now.rows c.args.labels.now.rules.now g.N.TreeNode.tree g.V.Visitor.takes p (g.N.TreeNode.tree c.args.tree.now) c.args.at c.args.visitor.now c.args.visitor.now in
    let S : MPattern → Type 0 = λ p. total c.args.labels.now.board.now.rows p (g.N.TreeNode.tree c.args.tree.now) c.args.at ≢ None in
    let e = ap pattern_of c.in-Leaf.is in
    subst F (sym e) (walked_leaf g.N.TreeNode.tree g.V.Visitor.takes c.args.labels.now.board.now.rows c.args.labels.now.rules.now c.args.labels.now.board.now.nonterminals c.in-Leaf.field-0 (g.N.TreeNode.tree c.args.tree.now) c.args.at c.args.visitor.now (subst S e c.requires.some))

pub walk-returns-in-Unary : goal.walk-returns-in-Unary
walk-returns-in-Unary g t c =
    let T = g.N.TreeNode.tree c.args.tree.now in
    let s' = c.walk_part.new.visitor in
    let F : MPattern → Type 0 = λ p. Walked c.args.labels.now.board.now.rows c.args.labels.now.rules.now g.N.TreeNode.tree g.V.Visitor.takes p T c.args.at c.args.visitor.now s' in
    let S : MPattern → Type 0 = λ p. total c.args.labels.now.board.now.rows p T c.args.at ≢ None in
    let e = ap pattern_of c.in-Unary.is in
    let A = g.N.TreeNode.tree c.kid.result.now in
    let W : Pattern → Type 0 = λ p. Walked c.args.labels.now.board.now.rows c.args.labels.now.rules.now g.N.TreeNode.tree g.V.Visitor.takes (pattern_of p) A (c.args.at + 1) c.args.visitor.now s' in
    subst F (sym e) (walked_one g.N.TreeNode.tree g.V.Visitor.takes c.args.labels.now.board.now.rows c.args.labels.now.rules.now c.args.labels.now.board.now.nonterminals c.in-Unary.field-0 (pattern_of c.in-Unary.p.value) T A c.args.at c.args.visitor.now s' (subst S e c.requires.some) c.kid.ensures (subst W c.deref.ensures c.walk_part.ensures))

pub walk-returns-in-Binary : goal.walk-returns-in-Binary
walk-returns-in-Binary g t c =
    let T = g.N.TreeNode.tree c.args.tree.now in
    let m = c.walk_part-in-Binary.new.visitor in
    let s' = c.walk_part-in-Binary-2.new.visitor in
    let F : MPattern → Type 0 = λ p. Walked c.args.labels.now.board.now.rows c.args.labels.now.rules.now g.N.TreeNode.tree g.V.Visitor.takes p T c.args.at c.args.visitor.now s' in
    let S : MPattern → Type 0 = λ p. total c.args.labels.now.board.now.rows p T c.args.at ≢ None in
    let e = ap pattern_of c.in-Binary.is in
    let A = g.N.TreeNode.tree c.kid-first.result.now in
    let B = g.N.TreeNode.tree c.kid-in-Binary.result.now in
    let W : Pattern → Type 0 = λ p. Walked c.args.labels.now.board.now.rows c.args.labels.now.rules.now g.N.TreeNode.tree g.V.Visitor.takes (pattern_of p) A (c.args.at + 1) c.args.visitor.now m in
    let X : Pattern → Type 0 = λ p. Walked c.args.labels.now.board.now.rows c.args.labels.now.rules.now g.N.TreeNode.tree g.V.Visitor.takes (pattern_of p) B c.end-next.result m s' in
    let Y : ℕ → Type 0 = λ z. Walked c.args.labels.now.board.now.rows c.args.labels.now.rules.now g.N.TreeNode.tree g.V.Visitor.takes (pattern_of c.in-Binary.q.value) B z m s' in
    subst F (sym e) (walked_two g.N.TreeNode.tree g.V.Visitor.takes c.args.labels.now.board.now.rows c.args.labels.now.rules.now c.args.labels.now.board.now.nonterminals c.in-Binary.field-0 (pattern_of c.in-Binary.p.value) (pattern_of c.in-Binary.q.value) T A B c.args.at c.args.visitor.now m s' (subst S e c.requires.some) c.kid-first.ensures c.kid-in-Binary.ensures (subst W c.deref-in-Binary.ensures c.walk_part-in-Binary.ensures) (subst Y c.end-next.ensures (subst X c.deref-in-Binary-2.ensures c.walk_part-in-Binary-2.ensures)))

pub walk_part-returns-in-Nonterminal : goal.walk_part-returns-in-Nonterminal
walk_part-returns-in-Nonterminal g t c =
    let F : MPattern → Type 0 = λ p. Walked c.args.labels.now.board.now.rows c.args.labels.now.rules.now g.N.TreeNode.tree g.V.Visitor.takes p (g.N.TreeNode.tree c.args.tree.now) c.args.at c.args.visitor.now c.reduce_at.new.visitor in
    subst F (sym (ap pattern_of c.in-Nonterminal.is)) (walked_hole g.N.TreeNode.tree g.V.Visitor.takes c.args.labels.now.board.now.rows c.args.labels.now.rules.now c.args.labels.now.board.now.nonterminals c.in-Nonterminal.n (g.N.TreeNode.tree c.args.tree.now) c.args.at c.args.visitor.now c.reduce_at.new.visitor c.reduce_at.ensures)
