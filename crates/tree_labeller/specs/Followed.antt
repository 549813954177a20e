-- A cell has a derivation, which takes the rule of each cell that it meets.
use Rattle.std.proofs.Common.{◌≡◌, ℕ, zero, suc, ◌+◌, ◌≤◌, Some, List, ap, ◌∙◌, arith, subst}
use Rattle.lburg_tables.specs.declared.cell.Cell.{Cell}
use Rattle.place_queue.specs.declared.key.Key.{Key}
use Rattle.tree_labeller.specs.Rows.{Row}
use Rattle.lburg_model.specs.declared.rule.Rule.{Rule}
use Rattle.lburg_model.specs.Tree.{MTree, TLeaf, TOne, TTwo, nodes}
use Rattle.lburg_model.specs.Pattern.{MPattern, PHole, PLeaf, POne, PTwo, pattern_of}
use Rattle.tree_labeller.specs.Indexed.{Derivation, Uses, Parts, AtHole, AtLeaf, AtOne, AtTwo, cost, costs, count, counts}
use Rattle.tree_labeller.specs.Labelled.{nothing_used, cell, total, Labelled}
use Rattle.tree_labeller.specs.Following.{Follows, FollowIn}
use Rattle.tree_labeller.specs.Totals.{sound_of, cell_of, fitted, added}

module _ (rows : List Row) (d : List Rule) (w : ℕ) where
  -- a derivation that follows the cells, of this cost and count
  abbrev pub Derived : ℕ → MTree → ℕ → ℕ → ℕ → Type 0
  Derived n t at k m = (e : Derivation d n t) × (cost e ≡ k) × (count e ≡ m) × Follows rows d e at

  abbrev pub Parted : MPattern → MTree → ℕ → ℕ → ℕ → Type 0
  Parted p t at k m = (x : Parts d p t) × (costs x ≡ k) × (counts x ≡ m) × FollowIn rows d x at

  abbrev Below : ℕ → Type 0
  Below m = (n : ℕ) (t : MTree) (at : ℕ) (c : Cell) → Labelled rows d w at t → cell rows at n ≡ Some c → c.count ≤ m → Derived n t at c.cost c.count

  parted : (m : ℕ) → Below m → (p : MPattern) (t : MTree) (at : ℕ) (k : Key) → Labelled rows d w at t → total rows p t at ≡ Some k → k.count ≤ m → Parted p t at k.cost k.count
  parted m below (PHole n) t at k f e h =
      let a = cell_of (cell rows at n) k e in
      let b = below n t at a.0 f a.1 (omega arith) in
      (AtHole b.0, b.1 ∙ a.2, b.2 ∙ a.3, b.3)
  parted m below (PLeaf op) (TLeaf op' v) at k f e h =
      let a = fitted op op' (Some nothing_used) k e in
      let g : nothing_used ≡ k = cc in
      let P : ℕ → Type 0 = λ o. Parted (PLeaf op) (TLeaf o v) at k.cost k.count in
      subst P a.0 (AtLeaf, ap (λ (x : Key). x.cost) g, ap (λ (x : Key). x.count) g, tt)
  parted m below (PLeaf op) (TOne op' v a) at k f e h = cc
  parted m below (PLeaf op) (TTwo op' v a b) at k f e h = cc
  parted m below (POne op p) (TLeaf op' v) at k f e h = cc
  parted m below (POne op p) (TOne op' v t) at k f e h =
      let a = fitted op op' _ k e in
      let b = parted m below p t (at + 1) k f.1 a.1 h in
      let P : ℕ → Type 0 = λ o. Parted (POne op p) (TOne o v t) at k.cost k.count in
      subst P a.0 (AtOne b.0, b.1, b.2, b.3)
  parted m below (POne op p) (TTwo op' v a b) at k f e h = cc
  parted m below (PTwo op p q) (TLeaf op' v) at k f e h = cc
  parted m below (PTwo op p q) (TOne op' v a) at k f e h = cc
  parted m below (PTwo op p q) (TTwo op' v s t) at k f e h =
      let a = fitted op op' _ k e in
      let b = added _ _ k a.1 in
      let x = parted m below p s (at + 1) b.0 f.1.0 b.2 (omega arith) in
      let y = parted m below q t (at + 1 + nodes s) b.1 f.1.1 b.3 (omega arith) in
      let P : ℕ → Type 0 = λ o. Parted (PTwo op p q) (TTwo o v s t) at k.cost k.count in
      subst P a.0 (AtTwo x.0 y.0, omega arith, omega arith, (x.3, y.3))

  below_all : (m : ℕ) → Below m
  below_all zero n t at c f e h = let r = (sound_of rows d w at t f).fair.made n c e in absurd (omega arith)
  below_all (suc m) n t at c f e h =
      let (i, r, k, is, left, tot, rule, of, many) = (sound_of rows d w at t f).fair.made n c e in
      let x = parted m (below_all m) (pattern_of r.pattern) t at k f tot (omega arith) in
      (Uses i r is left x.0, omega arith, omega arith, (c, e, rule, omega arith, omega arith, x.3))

  -- the parts of a pattern whose cells have a total
  pub parted_of : (p : MPattern) (t : MTree) (at : ℕ) (k : Key) → Labelled rows d w at t → total rows p t at ≡ Some k → Parted p t at k.cost k.count
  parted_of p t at k f e = parted k.count (below_all k.count) p t at k f e (omega arith)

  pub derived : (n : ℕ) (t : MTree) (at : ℕ) (c : Cell) → Labelled rows d w at t → cell rows at n ≡ Some c → Derived n t at c.cost c.count
  derived n t at c f e = below_all c.count n t at c f e (omega arith)
