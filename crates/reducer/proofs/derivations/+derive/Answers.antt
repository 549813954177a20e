use Rattle.std.proofs.Common.{◌≢◌, ℕ, ◌+◌, None, List, sym, ap, subst}
use Rattle.std.proofs.lemmas.Result.{on_ok_weaker}
use Rattle.lburg_model.specs.Pattern.{MPattern, pattern_of}
use Rattle.lburg_model.specs.declared.pattern.Pattern.{Pattern}
use Rattle.lburg_model.specs.declared.derivation.Derivation.{Derivation}
use Rattle.tree_labeller.specs.Labelled.{total}
use Rattle.reducer.specs.Built.{PartsAdded}
use Rattle.reducer.proofs.Values.{built, added_hole, added_leaf, added_one, added_two}
use Rattle.reducer.proofs.derivations.+derive.Goals as goal

pub derivation_at-returns : goal.derivation_at-returns
derivation_at-returns g t c =
    let rows = c.args.labels.now.board.now.rows in
    let rules = c.args.labels.now.rules.now in
    let T = g.N.TreeNode.tree c.args.tree.now in
    let r = c.choice-choice.result.rule.now in
    let Added : List Derivation → Type 0 = λ old. PartsAdded rows rules (pattern_of r.pattern) T c.args.at old c.add_parts.new.parts in
    built rows rules c.args.labels.now.board.now.nonterminals c.args.n T c.args.at c.choice-choice.result.number r c.add_parts.new.parts c.requires.labelled c.requires.some c.choice-choice.ensures.chosen c.choice-choice.ensures.rule (subst Added c.in_ok-parts.ensures c.in_ok-add_parts.ensures)

pub add_parts-returns-in_ok-part-in-Nonterminal : goal.add_parts-returns-in_ok-part-in-Nonterminal
add_parts-returns-in_ok-part-in-Nonterminal g t c =
    let rows = c.args.labels.now.board.now.rows in
    let rules = c.args.labels.now.rules.now in
    let T = g.N.TreeNode.tree c.args.tree.now in
    let old = c.args.parts.now in
    let new = c.push.new.self in
    let F : MPattern → Type 0 = λ p. PartsAdded rows rules p T c.args.at old new in
    on_ok_weaker c.push.result (λ grown. subst F (sym (ap pattern_of c.in-Nonterminal.is)) (added_hole rows rules c.in-Nonterminal.n T c.args.at c.in_ok-part-in-Nonterminal.part old new grown c.in_ok-part-in-Nonterminal.ensures)) c.push.ensures.ok

pub add_parts-returns-in-Leaf : goal.add_parts-returns-in-Leaf
add_parts-returns-in-Leaf g t c =
    let rows = c.args.labels.now.board.now.rows in
    let rules = c.args.labels.now.rules.now in
    let T = g.N.TreeNode.tree c.args.tree.now in
    let old = c.args.parts.now in
    let F : MPattern → Type 0 = λ p. PartsAdded rows rules p T c.args.at old old in
    let S : MPattern → Type 0 = λ p. total rows p T c.args.at ≢ None in
    let e = ap pattern_of c.in-Leaf.is in
    subst F (sym e) (added_leaf rows rules c.in-Leaf.field-0 T c.args.at old (subst S e c.requires.some))

pub add_parts-returns-in-Unary : goal.add_parts-returns-in-Unary
add_parts-returns-in-Unary g t c =
    let rows = c.args.labels.now.board.now.rows in
    let rules = c.args.labels.now.rules.now in
    let T = g.N.TreeNode.tree c.args.tree.now in
    let A = g.N.TreeNode.tree c.kid.result.now in
    let old = c.args.parts.now in
    let new = c.add_parts.new.parts in
    let F : MPattern → Type 0 = λ p. PartsAdded rows rules p T c.args.at old new in
    let S : MPattern → Type 0 = λ p. total rows p T c.args.at ≢ None in
    let W : Pattern → Type 0 = λ p. PartsAdded rows rules (pattern_of p) A (c.args.at + 1) old new in
    let e = ap pattern_of c.in-Unary.is in
    on_ok_weaker c.add_parts.result (λ added. subst F (sym e) (added_one rows rules c.in-Unary.field-0 (pattern_of c.in-Unary.p.value) T A c.args.at old new (subst S e c.requires.some) c.kid.ensures (subst W c.deref.ensures added))) c.add_parts.ensures

pub add_parts-returns-in_ok-add_parts-in-Binary : goal.add_parts-returns-in_ok-add_parts-in-Binary
add_parts-returns-in_ok-add_parts-in-Binary g t c =
    let rows = c.args.labels.now.board.now.rows in
    let rules = c.args.labels.now.rules.now in
    let T = g.N.TreeNode.tree c.args.tree.now in
    let A = g.N.TreeNode.tree c.kid-first.result.now in
    let B = g.N.TreeNode.tree c.kid-in-Binary.result.now in
    let old = c.args.parts.now in
    let mid = c.add_parts-in-Binary.new.parts in
    let new = c.add_parts-in-Binary-2.new.parts in
    let F : MPattern → Type 0 = λ p. PartsAdded rows rules p T c.args.at old new in
    let S : MPattern → Type 0 = λ p. total rows p T c.args.at ≢ None in
    let W : Pattern → Type 0 = λ p. PartsAdded rows rules (pattern_of p) A (c.args.at + 1) old mid in
    let X : Pattern → Type 0 = λ p. PartsAdded rows rules (pattern_of p) B c.end-next.result mid new in
    let Y : ℕ → Type 0 = λ z. PartsAdded rows rules (pattern_of c.in-Binary.q.value) B z mid new in
    let e = ap pattern_of c.in-Binary.is in
    let first = subst W c.deref-in-Binary.ensures c.in_ok-add_parts-in-Binary.ensures in
    on_ok_weaker c.add_parts-in-Binary-2.result (λ added. subst F (sym e) (added_two rows rules c.in-Binary.field-0 (pattern_of c.in-Binary.p.value) (pattern_of c.in-Binary.q.value) T A B c.args.at old mid new (subst S e c.requires.some) c.kid-first.ensures c.kid-in-Binary.ensures first (subst Y c.end-next.ensures (subst X c.deref-in-Binary-2.ensures added)))) c.add_parts-in-Binary-2.ensures
