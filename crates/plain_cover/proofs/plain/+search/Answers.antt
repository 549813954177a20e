use Rattle.std.proofs.Common.{◌≡◌, ℕ, ◌+◌, length, Option, Some, None, IsTrue, false, refl, sym, ap, ◌∙◌, subst, arith}
use Rattle.std.proofs.lemmas.Option.{slice_get-get_or}
use Rattle.lburg_model.specs.declared.pattern.Pattern.{Pattern}
use Rattle.lburg_model.specs.Range.{IsMet}
use Rattle.lburg_model.specs.Tree.{value_of}
use Rattle.lburg_model.specs.Pattern.{PHole, PLeaf, POne, PTwo, pattern_of}
use Rattle.plain_cover.specs.declared.plain.Found.{Found}
use Rattle.plain_cover.specs.Told.{told, told_of_parts, told_of_none, told_of_both}
use Rattle.plain_cover.specs.IsLeastOf.{IsLeastOf}
use Rattle.plain_cover.specs.Within.{Within, WithinFirst, WithinBy, PartsWithin}
use Rattle.plain_cover.proofs.Small.{small, first_kid_small, second_kid_small}
use Rattle.plain_cover.proofs.Search.{answered, by_shape, hole, leaf, one, two_no_first, two_no_second, two_both, by_other, by_none, by_some, within_none, first_all}
use Rattle.plain_cover.proofs.plain.+search.Goals as goal

pub best_by-rule_found-requires-clause-cost : goal.best_by-rule_found-requires-clause-cost
best_by-rule_found-requires-clause-cost g t c =
    let tree = g.N.TreeNode.tree c.args.tree.now in
    let r = c.index-rules-place.result in
    let rules = c.args.rules.now in
    let P : Option Found → Type 0 = IsLeastOf (told_of_parts rules) (PartsWithin rules (pattern_of r.pattern) tree c.args.height) in
    let h = small rules c.requires.rules (pattern_of r.pattern) tree c.args.height c.in-Some.parts c.requires.height c.requires.tree (subst P c.in-Some.is c.in_ok-best_parts.ensures) in
    let k = c.requires.rules.cheap c.args.place r (slice_get-get_or rules c.args.place r c.requires.place ∙ ap Some (sym c.index-rules-place.is)) in
    omega (arith, h.0)

pub best_by-rule_found-requires-clause-count : goal.best_by-rule_found-requires-clause-count
best_by-rule_found-requires-clause-count g t c =
    let tree = g.N.TreeNode.tree c.args.tree.now in
    let r = c.index-rules-place.result in
    let rules = c.args.rules.now in
    let P : Option Found → Type 0 = IsLeastOf (told_of_parts rules) (PartsWithin rules (pattern_of r.pattern) tree c.args.height) in
    let h = small rules c.requires.rules (pattern_of r.pattern) tree c.args.height c.in-Some.parts c.requires.height c.requires.tree (subst P c.in-Some.is c.in_ok-best_parts.ensures) in
    omega (arith, h.1)

pub best_by-returns-then-not-is_for : goal.best_by-returns-then-not-is_for
best_by-returns-then-not-is_for g t c =
    let tree = g.N.TreeNode.tree c.args.tree.now in
    let r = c.index-rules-place.result in
    let rules = c.args.rules.now in
    let at = slice_get-get_or rules c.args.place r c.requires.place ∙ ap Some (sym c.index-rules-place.is) in
    by_other rules c.args.place r c.args.nonterminal tree c.args.height at (λ here. let no : IsTrue false = c.if-not-is_for.ensures.1 here in cc)

pub best_by-returns-in-None : goal.best_by-returns-in-None
best_by-returns-in-None g t c =
    let tree = g.N.TreeNode.tree c.args.tree.now in
    let r = c.index-rules-place.result in
    let rules = c.args.rules.now in
    let P : Option Found → Type 0 = IsLeastOf (told_of_parts rules) (PartsWithin rules (pattern_of r.pattern) tree c.args.height) in
    let at = slice_get-get_or rules c.args.place r c.requires.place ∙ ap Some (sym c.index-rules-place.is) in
    by_none rules c.args.place r c.args.nonterminal tree c.args.height at (subst P c.in-None.is c.in_ok-best_parts.ensures)

pub best_by-returns-in_ok-rule_found-in-Some : goal.best_by-returns-in_ok-rule_found-in-Some
best_by-returns-in_ok-rule_found-in-Some g t c =
    let tree = g.N.TreeNode.tree c.args.tree.now in
    let r = c.index-rules-place.result in
    let rules = c.args.rules.now in
    let P : Option Found → Type 0 = IsLeastOf (told_of_parts rules) (PartsWithin rules (pattern_of r.pattern) tree c.args.height) in
    let at = slice_get-get_or rules c.args.place r c.requires.place ∙ ap Some (sym c.index-rules-place.is) in
    let Q : Found → Type 0 = λ f. IsLeastOf (told rules) (WithinBy rules c.args.nonterminal tree (c.args.height + 1) (c.args.place + 1)) (Some f) in
    let here : (r.left ≡ c.args.nonterminal) × IsMet r.range (value_of tree) = c.if-not-is_for.ensures.0 refl in
    subst Q (sym c.in_ok-rule_found-in-Some.ensures) (by_some rules c.args.place r c.args.nonterminal tree c.args.height c.in-Some.parts at here.0 here.1 (subst P c.in-Some.is c.in_ok-best_parts.ensures))

pub best_parts-returns-in_default : goal.best_parts-returns-in_default
best_parts-returns-in_default g t c =
    let rules = c.args.rules.now in
    let tree = g.N.TreeNode.tree c.args.tree.now in
    let a = g.N.TreeNode.tree c.kid-in-Binary.result.now in
    let op = c.in-Binary.op in
    let p = pattern_of c.deref-in-Binary.result.now in
    let q = pattern_of c.in-Binary.q.value in
    let shape : pattern_of c.args.pattern.now ≡ PTwo op p q = ap pattern_of c.in-Binary.is ∙ ap (λ (z : Pattern). PTwo op (pattern_of z) q) (sym c.deref-in-Binary.ensures) in
    let P : Option Found → Type 0 = IsLeastOf (told_of_parts rules) (PartsWithin rules p a c.args.height) in
    by_shape rules (PTwo op p q) (pattern_of c.args.pattern.now) tree c.args.height None shape
    (two_no_first rules op p q tree a c.args.height (c.if-not-is_node.ensures.0 refl) c.kid-in-Binary.ensures (subst P c.in_default.is c.in_ok-first-in-Binary.ensures))

pub best_parts-returns-in_default-2 : goal.best_parts-returns-in_default-2
best_parts-returns-in_default-2 g t c =
    let rules = c.args.rules.now in
    let tree = g.N.TreeNode.tree c.args.tree.now in
    let a = g.N.TreeNode.tree c.kid-in-Binary.result.now in
    let b = g.N.TreeNode.tree c.kid-in-Binary-2.result.now in
    let op = c.in-Binary.op in
    let p = pattern_of c.deref-in-Binary.result.now in
    let q = pattern_of c.deref-in-Binary-2.result.now in
    let shape : pattern_of c.args.pattern.now ≡ PTwo op p q =
    ap pattern_of c.in-Binary.is ∙ ap (λ (z : Pattern). PTwo op (pattern_of z) (pattern_of c.in-Binary.q.value)) (sym c.deref-in-Binary.ensures) ∙ ap (λ (z : Pattern). PTwo op p (pattern_of z)) (sym c.deref-in-Binary-2.ensures) in
    let P : Option Found → Type 0 = IsLeastOf (told_of_parts rules) (PartsWithin rules q b c.args.height) in
    by_shape rules (PTwo op p q) (pattern_of c.args.pattern.now) tree c.args.height None shape
    (two_no_second rules op p q tree a b c.args.height (c.if-not-is_node.ensures.0 refl) c.kid-in-Binary.ensures c.kid-in-Binary-2.ensures (subst P c.in_default-2.is c.in_ok-second-in-Binary.ensures))

pub best_parts-both_found-requires-clause-cost : goal.best_parts-both_found-requires-clause-cost
best_parts-both_found-requires-clause-cost g t c =
    let rules = c.args.rules.now in
    let tree = g.N.TreeNode.tree c.args.tree.now in
    let a = g.N.TreeNode.tree c.kid-in-Binary.result.now in
    let b = g.N.TreeNode.tree c.kid-in-Binary-2.result.now in
    let p = pattern_of c.deref-in-Binary.result.now in
    let q = pattern_of c.deref-in-Binary-2.result.now in
    let P : Option Found → Type 0 = IsLeastOf (told_of_parts rules) (PartsWithin rules p a c.args.height) in
    let Q : Option Found → Type 0 = IsLeastOf (told_of_parts rules) (PartsWithin rules q b c.args.height) in
    let h = small rules c.requires.rules p a c.args.height c.in-Some.first c.requires.height (first_kid_small tree a c.requires.tree c.kid-in-Binary.ensures) (subst P c.in-Some.is c.in_ok-first-in-Binary.ensures) in
    let k = small rules c.requires.rules q b c.args.height c.in-Some-2.second c.requires.height (second_kid_small tree b c.requires.tree c.kid-in-Binary-2.ensures) (subst Q c.in-Some-2.is c.in_ok-second-in-Binary.ensures) in
    omega (arith, h.0, k.0)

pub best_parts-both_found-requires-clause-count : goal.best_parts-both_found-requires-clause-count
best_parts-both_found-requires-clause-count g t c =
    let rules = c.args.rules.now in
    let tree = g.N.TreeNode.tree c.args.tree.now in
    let a = g.N.TreeNode.tree c.kid-in-Binary.result.now in
    let b = g.N.TreeNode.tree c.kid-in-Binary-2.result.now in
    let p = pattern_of c.deref-in-Binary.result.now in
    let q = pattern_of c.deref-in-Binary-2.result.now in
    let P : Option Found → Type 0 = IsLeastOf (told_of_parts rules) (PartsWithin rules p a c.args.height) in
    let Q : Option Found → Type 0 = IsLeastOf (told_of_parts rules) (PartsWithin rules q b c.args.height) in
    let h = small rules c.requires.rules p a c.args.height c.in-Some.first c.requires.height (first_kid_small tree a c.requires.tree c.kid-in-Binary.ensures) (subst P c.in-Some.is c.in_ok-first-in-Binary.ensures) in
    let k = small rules c.requires.rules q b c.args.height c.in-Some-2.second c.requires.height (second_kid_small tree b c.requires.tree c.kid-in-Binary-2.ensures) (subst Q c.in-Some-2.is c.in_ok-second-in-Binary.ensures) in
    omega (arith, h.1, k.1)

pub best_parts-returns-in-Nonterminal : goal.best_parts-returns-in-Nonterminal
best_parts-returns-in-Nonterminal g t c =
    let rules = c.args.rules.now in
    let tree = g.N.TreeNode.tree c.args.tree.now in
    let n = c.in-Nonterminal.n in
    answered (IsLeastOf (told rules) (Within rules n tree c.args.height)) (IsLeastOf (told_of_parts rules) (PartsWithin rules (pattern_of c.args.pattern.now) tree c.args.height))
    (λ o f. by_shape rules (PHole n) (pattern_of c.args.pattern.now) tree c.args.height o (ap pattern_of c.in-Nonterminal.is) (hole rules n tree c.args.height o f))
    c.best_within.result c.best_within.ensures

pub best_parts-returns-then-is_node : goal.best_parts-returns-then-is_node
best_parts-returns-then-is_node g t c =
    let rules = c.args.rules.now in
    let tree = g.N.TreeNode.tree c.args.tree.now in
    let op = c.in-Leaf.op in
    let Q : Found → Type 0 = λ f. IsLeastOf (told_of_parts rules) (PartsWithin rules (pattern_of c.args.pattern.now) tree c.args.height) (Some f) in
    subst Q (sym c.none_found.ensures) (by_shape rules (PLeaf op) (pattern_of c.args.pattern.now) tree c.args.height (Some told_of_none) (ap pattern_of c.in-Leaf.is) (leaf rules op tree c.args.height (c.if-is_node.ensures.0 refl)))

pub best_parts-returns-then-is_node-2 : goal.best_parts-returns-then-is_node-2
best_parts-returns-then-is_node-2 g t c =
    let rules = c.args.rules.now in
    let tree = g.N.TreeNode.tree c.args.tree.now in
    let a = g.N.TreeNode.tree c.kid.result.now in
    let op = c.in-Unary.op in
    let p = pattern_of c.deref.result.now in
    let shape : pattern_of c.args.pattern.now ≡ POne op p = ap pattern_of c.in-Unary.is ∙ ap (λ (z : Pattern). POne op (pattern_of z)) (sym c.deref.ensures) in
    answered (IsLeastOf (told_of_parts rules) (PartsWithin rules p a c.args.height)) (IsLeastOf (told_of_parts rules) (PartsWithin rules (pattern_of c.args.pattern.now) tree c.args.height))
    (λ o f. by_shape rules (POne op p) (pattern_of c.args.pattern.now) tree c.args.height o shape (one rules op p tree a c.args.height o (c.if-is_node-2.ensures.0 refl) c.kid.ensures f))
    c.best_parts.result c.best_parts.ensures

pub best_parts-returns-in_ok-both_found-in-Binary : goal.best_parts-returns-in_ok-both_found-in-Binary
best_parts-returns-in_ok-both_found-in-Binary g t c =
    let rules = c.args.rules.now in
    let tree = g.N.TreeNode.tree c.args.tree.now in
    let a = g.N.TreeNode.tree c.kid-in-Binary.result.now in
    let b = g.N.TreeNode.tree c.kid-in-Binary-2.result.now in
    let op = c.in-Binary.op in
    let p = pattern_of c.deref-in-Binary.result.now in
    let q = pattern_of c.deref-in-Binary-2.result.now in
    let shape : pattern_of c.args.pattern.now ≡ PTwo op p q =
    ap pattern_of c.in-Binary.is ∙ ap (λ (z : Pattern). PTwo op (pattern_of z) (pattern_of c.in-Binary.q.value)) (sym c.deref-in-Binary.ensures) ∙ ap (λ (z : Pattern). PTwo op p (pattern_of z)) (sym c.deref-in-Binary-2.ensures) in
    let P : Option Found → Type 0 = IsLeastOf (told_of_parts rules) (PartsWithin rules p a c.args.height) in
    let Q : Option Found → Type 0 = IsLeastOf (told_of_parts rules) (PartsWithin rules q b c.args.height) in
    let R : Found → Type 0 = λ f. IsLeastOf (told_of_parts rules) (PartsWithin rules (pattern_of c.args.pattern.now) tree c.args.height) (Some f) in
    subst R (sym c.in_ok-both_found-in-Binary.ensures)
    (by_shape rules (PTwo op p q) (pattern_of c.args.pattern.now) tree c.args.height (Some (told_of_both c.in-Some.first c.in-Some-2.second)) shape
    (two_both rules op p q tree a b c.args.height c.in-Some.first c.in-Some-2.second (c.if-not-is_node.ensures.0 refl) c.kid-in-Binary.ensures c.kid-in-Binary-2.ensures (subst P c.in-Some.is c.in_ok-first-in-Binary.ensures) (subst Q c.in-Some-2.is c.in_ok-second-in-Binary.ensures)))

pub best_within-returns-then-height-eq0 : goal.best_within-returns-then-height-eq0
best_within-returns-then-height-eq0 g t c =
    let tree = g.N.TreeNode.tree c.args.tree.now in
    let P : ℕ → Type 0 = λ h. IsLeastOf (told c.args.rules.now) (Within c.args.rules.now c.args.nonterminal tree h) None in
    subst P (sym c.if-height-eq0.true) (within_none c.args.rules.now c.args.nonterminal tree)

pub best_within-returns : goal.best_within-returns
best_within-returns g t c =
    let tree = g.N.TreeNode.tree c.args.tree.now in
    let rules = c.args.rules.now in
    let i = c.loop-place.auto.place-end in
    let j = c.loop-place-test.false in
    let e : c.loop-place.place ≡ length rules = omega arith in
    let P : ℕ → Type 0 = λ k. IsLeastOf (told rules) (WithinFirst rules c.args.nonterminal tree c.args.height k) c.loop-place.found in
    first_all rules c.args.nonterminal tree c.args.height c.loop-place.found (subst P e c.loop-place.invariant)
