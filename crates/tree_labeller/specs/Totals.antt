-- What the rows say of a tree.
use Rattle.std.proofs.Common.{◌≡◌, ℕ, ◌+◌, ◌*◌, ◌≤◌, Option, Some, None, List, refl, sym, ap, arith}
use Rattle.std.specs.Prelude.{◌==◌, true, false, Bool, if◌then◌else◌, IfSome}
use Rattle.std.proofs.lemmas.Bool.{eqb-true}
use Rattle.lburg_tables.specs.declared.cell.Cell.{Cell}
use Rattle.place_queue.specs.declared.key.Key.{Key}
use Rattle.tree_labeller.specs.Rows.{Row}
use Rattle.lburg_model.specs.declared.rule.Rule.{Rule}
use Rattle.lburg_model.specs.Tree.{MTree, TLeaf, TOne, TTwo}
use Rattle.lburg_model.specs.Pattern.{MPattern, PHole, PLeaf, POne, PTwo}
use Rattle.tree_labeller.specs.Labelled.{add, cell, area, Sound, Labelled, KidsLabelled, Ready}
use Rattle.lburg_tables.specs.RowOf.{key_of}

pub cell_of : (o : Option Cell) (k : Key) → key_of o ≡ Some k → (c : Cell) × (o ≡ Some c) × (c.cost ≡ k.cost) × (c.count ≡ k.count)
cell_of None k e = cc
cell_of (Some c) k e = let f : record { cost = c.cost; count = c.count } ≡ k = cc in (c, refl, ap (λ (x : Key). x.cost) f, ap (λ (x : Key). x.count) f)

fitted_by : (b : Bool) (x : Option Key) (k : Key) → (if b then x else None) ≡ Some k → (b ≡ true) × (x ≡ Some k)
fitted_by true x k e = (refl, e)
fitted_by false x k e = cc

pub fitted : (op op' : ℕ) (x : Option Key) (k : Key) → (if op == op' then x else None) ≡ Some k → (op ≡ op') × (x ≡ Some k)
fitted op op' x k e = let a = fitted_by (op == op') x k e in (eqb-true op op' a.0, a.1)

pub added : (x y : Option Key) (k : Key) → add x y ≡ Some k → (a : Key) × (b : Key) × (x ≡ Some a) × (y ≡ Some b) × (a.cost + b.cost ≡ k.cost) × (a.count + b.count ≡ k.count)
added None y k e = cc
added (Some a) None k e = cc
added (Some a) (Some b) k e =
    let f : record { cost = a.cost + b.cost; count = a.count + b.count } ≡ k = cc in
    (a, b, refl, refl, ap (λ (x : Key). x.cost) f, ap (λ (x : Key). x.count) f)

module _ (rows : List Row) (d : List Rule) (w : ℕ) where
  pub sound_of : (at : ℕ) (t : MTree) → Labelled rows d w at t → Sound rows d w at t
  sound_of at (TLeaf op v) l = l
  sound_of at (TOne op v a) l = l.0
  sound_of at (TTwo op v a b) l = l.0

  pub kids_of_labelled : (at : ℕ) (t : MTree) → Labelled rows d w at t → KidsLabelled rows d w at t
  kids_of_labelled at (TLeaf op v) l = tt
  kids_of_labelled at (TOne op v a) l = l.1
  kids_of_labelled at (TTwo op v a b) l = l.1

  pub ready_of : (at : ℕ) (t : MTree) (p : MPattern) → Labelled rows d w at t → Ready rows d w at t p
  ready_of at t (PHole n) l = l
  ready_of at t (PLeaf op) l = kids_of_labelled at t l
  ready_of at t (POne op p) l = kids_of_labelled at t l
  ready_of at t (PTwo op p q) l = kids_of_labelled at t l

  pub hole_bounded : (at : ℕ) (t : MTree) (n : ℕ) → Labelled rows d w at t → (o : Option Key) → o ≡ key_of (cell rows at n) → IfSome o (λ k. (k.count ≤ area w t) × (k.cost ≤ 32768 * k.count))
  hole_bounded at t n l None e = tt
  hole_bounded at t n l (Some k) e =
      let s = sound_of at t l in
      let a = cell_of (cell rows at n) k (sym e) in
      let b = s.short n a.0 a.1 in
      let c = s.cheap n a.0 a.1 in
      (omega arith, omega arith)
