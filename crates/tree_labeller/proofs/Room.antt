-- What room for a tree gives.
use Rattle.std.proofs.Common.{◌≡◌, ℕ, ◌+◌, ◌-◌, ◌*◌, ◌<◌, ◌≤◌, ◌^◌, arith}
use Rattle.lburg_model.specs.Tree.{MTree, TLeaf, TOne, TTwo, nodes}
use Rattle.tree_labeller.specs.Labelled.{area}
use Rattle.tree_labeller.proofs.lemmas.Totals.{nodes_pos}

area_is : (w : ℕ) (t : MTree) → area w t ≡ w * nodes t
area_is w (TLeaf op v) = omega arith
area_is w (TOne op v a) = let e = area_is w a in grow w (area w a) (nodes a) e
  where
    grow : (w x n : ℕ) → x ≡ w * n → x + w ≡ w * (n + 1)
    grow w x n e = grind arith
area_is w (TTwo op v a b) = let e = area_is w a in let f = area_is w b in grow w (area w a) (area w b) (nodes a) (nodes b) e f
  where
    grow : (w x y n m : ℕ) → x ≡ w * n → y ≡ w * m → x + y + w ≡ w * (n + m + 1)
    grow w x y n m e f = grind arith

more : (w a b : ℕ) → a ≤ b → w * a ≤ b * w
more w a b h = grind arith

at_least_width : (w n : ℕ) → 1 ≤ n → w ≤ n * w
at_least_width w n h = grind arith

-- a tree that there is room for has no large sums
pub small_area : (w n : ℕ) (t : MTree) → n * w < 2 ^ 32 - 1 → nodes t ≤ n → area w t < 2 ^ 32 - 1
small_area w n t h l = let e = area_is w t in let a = more w (nodes t) n l in omega arith

-- nor has a row many cells
pub narrow_rows : (w n : ℕ) (t : MTree) → n * w < 2 ^ 32 - 1 → nodes t ≤ n → w < 2 ^ 32 - 1
narrow_rows w n t h l = let a = nodes_pos t in let b = at_least_width w n (omega arith) in omega arith
