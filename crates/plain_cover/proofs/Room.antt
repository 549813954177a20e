-- The room that the goals of a pattern have.
use Rattle.std.proofs.Common.{◌≡◌, ℕ, ◌+◌, ◌≤◌, Bool, true, false, Option, Some, None, List, [], ◌∷◌, ◌++◌, refl, arith, subst}
use Rattle.std.specs.Prelude.{eqb, max, if◌then◌else◌}
use Rattle.lburg_model.specs.Tree.{MTree, TLeaf, TOne, TTwo}
use Rattle.lburg_model.specs.Pattern.{MPattern, PHole, PLeaf, POne, PTwo, Goal, joined, goals_at}
use Rattle.plain_cover.specs.Room.{room}

-- the room below a tree's own node
abbrev pub below : ℕ → MTree → ℕ
below q (TLeaf op v) = 0
below q (TOne op v a) = room q a
below q (TTwo op v a b) = max (room q a) (room q b)

pub room_below : (q : ℕ) (t : MTree) → room q t ≡ below q t + q
room_below q (TLeaf op v) = omega arith
room_below q (TOne op v a) = refl
room_below q (TTwo op v a b) = refl

-- each goal has no more room than this
abbrev pub Narrow : ℕ → ℕ → List Goal → Type 0
Narrow q h [] = Unit {0}
Narrow q h (g ∷ gs) = (room q g.1 ≤ h) × Narrow q h gs

narrow_more : (q h k : ℕ) (gs : List Goal) → h ≤ k → Narrow q h gs → Narrow q k gs
narrow_more q h k [] e a = tt
narrow_more q h k (g ∷ gs) e a = (omega arith, narrow_more q h k gs e a.1)

narrow_join : (q h : ℕ) (gs fs : List Goal) → Narrow q h gs → Narrow q h fs → Narrow q h (gs ++ fs)
narrow_join q h [] fs a b = b
narrow_join q h (g ∷ gs) fs a b = (a.0, narrow_join q h gs fs a.1 b)

-- a choice that gives something was a choice for it
pub chosen : {A : Type 0} (b : Bool) (x : Option A) (y : A) → (if b then x else None) ≡ Some y → (b ≡ true) × (x ≡ Some y)
chosen true x y e = (refl, e)
chosen false x y e = cc

pub record Joins (x y : Option (List Goal)) (zs : List Goal) : Type 0 where
  pub front : List Goal
  pub back : List Goal
  pub is_front : x ≡ Some front
  pub is_back : y ≡ Some back
  pub whole : front ++ back ≡ zs

pub joins : (x y : Option (List Goal)) (zs : List Goal) → joined x y ≡ Some zs → Joins x y zs
joins None y zs e = cc
joins (Some xs) None zs e = cc
joins (Some xs) (Some ys) zs e = record { front = xs; back = ys; is_front = refl; is_back = refl; whole = cc }

-- what the goals of a pattern have: a nonterminal alone has its own node's room
abbrev pub reach : ℕ → MPattern → MTree → ℕ
reach q (PHole n) t = room q t
reach q (PLeaf op) t = below q t
reach q (POne op p) t = below q t
reach q (PTwo op p r) t = below q t

reach_room : (q : ℕ) (p : MPattern) (t : MTree) → reach q p t ≤ room q t
reach_room q (PHole n) t = omega arith
reach_room q (PLeaf op) t = omega (arith, room_below q t)
reach_room q (POne op p) t = omega (arith, room_below q t)
reach_room q (PTwo op p r) t = omega (arith, room_below q t)

pub narrow : (q : ℕ) (p : MPattern) (t : MTree) (gs : List Goal) → goals_at p t ≡ Some gs → Narrow q (reach q p t) gs
narrow q (PHole n) t gs e = let f : ((n, t) ∷ []) ≡ gs = cc in subst (Narrow q (room q t)) f (omega arith, tt)
narrow q (PLeaf op) (TLeaf op' v) gs e = let c = chosen (eqb op op') (Some []) gs e in let f : [] ≡ gs = cc in subst (Narrow q 0) f tt
narrow q (PLeaf op) (TOne op' v a) gs e = cc
narrow q (PLeaf op) (TTwo op' v a b) gs e = cc
narrow q (POne op p) (TLeaf op' v) gs e = cc
narrow q (POne op p) (TOne op' v a) gs e = narrow_more q (reach q p a) (room q a) gs (reach_room q p a) (narrow q p a gs (chosen (eqb op op') (goals_at p a) gs e).1)
narrow q (POne op p) (TTwo op' v a b) gs e = cc
narrow q (PTwo op p r) (TLeaf op' v) gs e = cc
narrow q (PTwo op p r) (TOne op' v a) gs e = cc
narrow q (PTwo op p r) (TTwo op' v a b) gs e =
    let j = joins (goals_at p a) (goals_at r b) gs (chosen (eqb op op') _ gs e).1 in
    let h = max (room q a) (room q b) in
    subst (Narrow q h) j.whole
    (narrow_join q h j.front j.back
    (narrow_more q (reach q p a) h j.front (omega (arith, reach_room q p a)) (narrow q p a j.front j.is_front))
    (narrow_more q (reach q r b) h j.back (omega (arith, reach_room q r b)) (narrow q r b j.back j.is_back)))
