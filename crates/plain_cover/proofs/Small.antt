-- Bounds on count and cost.
use Rattle.std.proofs.Common.{◌≡◌, ℕ, zero, suc, ◌+◌, ◌-◌, ◌*◌, ◌^◌, ◌<◌, ◌≤◌, Option, Some, None, List, [], ◌∷◌, ◌++◌, refl, ap, arith, subst}
use Rattle.std.specs.Prelude.{eqb, slice_get}
use Rattle.std.proofs.Math.Nat.{mul-le-mul_left}
use Rattle.lburg_model.specs.declared.rule.Rule.{Rule}
use Rattle.lburg_model.specs.Tree.{MTree, TLeaf, TOne, TTwo, nodes, kids_of}
use Rattle.lburg_model.specs.Pattern.{MPattern, PHole, PLeaf, POne, PTwo, Goal, goals_at, pattern_of}
use Rattle.lburg_model.specs.Derivation.{MDerivation, MParts, Apply, NoPart, Part, Derives, DeriveEach, cost_of, cost, costs, count, counts}
use Rattle.plain_cover.specs.declared.plain.Found.{Found}
use Rattle.plain_cover.specs.Height.{height, tallest}
use Rattle.plain_cover.specs.Room.{room}
use Rattle.plain_cover.specs.Told.{told_of_parts}
use Rattle.plain_cover.specs.IsLeastOf.{IsLeastOf}
use Rattle.plain_cover.specs.Within.{PartsWithin}
use Rattle.plain_cover.specs.AreRules.{AreRules}
use Rattle.plain_cover.proofs.Room.{chosen, joins}

weight : List Goal → ℕ
weight [] = 0
weight (g ∷ gs) = nodes g.1 + weight gs

weight_join : (gs fs : List Goal) → weight (gs ++ fs) ≡ weight gs + weight fs
unfolding weight
weight_join [] fs = omega arith
weight_join (g ∷ gs) fs = omega (arith, weight_join gs fs)

weight_le : (p : MPattern) (t : MTree) (gs : List Goal) → goals_at p t ≡ Some gs → weight gs ≤ nodes t
unfolding weight
weight_le (PHole n) t gs e = let f : ((n, t) ∷ []) ≡ gs = cc in subst (λ (z : List Goal). weight z ≤ nodes t) f (omega arith)
weight_le (PLeaf op) (TLeaf op' v) gs e = let c = chosen (eqb op op') (Some []) gs e in let f : [] ≡ gs = cc in subst (λ (z : List Goal). weight z ≤ 1) f (omega arith)
weight_le (PLeaf op) (TOne op' v a) gs e = cc
weight_le (PLeaf op) (TTwo op' v a b) gs e = cc
weight_le (POne op p) (TLeaf op' v) gs e = cc
weight_le (POne op p) (TOne op' v a) gs e = let h = weight_le p a gs (chosen (eqb op op') (goals_at p a) gs e).1 in omega arith
weight_le (POne op p) (TTwo op' v a b) gs e = cc
weight_le (PTwo op p r) (TLeaf op' v) gs e = cc
weight_le (PTwo op p r) (TOne op' v a) gs e = cc
weight_le (PTwo op p r) (TTwo op' v a b) gs e =
    let j = joins (goals_at p a) (goals_at r b) gs (chosen (eqb op op') _ gs e).1 in
    let h = weight_le p a j.front j.is_front in
    let k = weight_le r b j.back j.is_back in
    let w = weight_join j.front j.back in
    subst (λ (z : List Goal). weight z ≤ nodes a + nodes b + 1) j.whole (omega arith)

nodes_pos : (t : MTree) → 1 ≤ nodes t
nodes_pos (TLeaf op v) = omega arith
nodes_pos (TOne op v a) = omega arith
nodes_pos (TTwo op v a b) = omega arith

module _ (rules : List Rule) where
  abbrev Counted : ℕ → Type 0
  Counted h = (n : ℕ) (t : MTree) (x : MDerivation) → Derives rules n t x → height x ≤ h → count x ≤ h * nodes t

  each_counted : (h : ℕ) → Counted h → (gs : List Goal) (xs : MParts) → DeriveEach rules gs xs → tallest xs ≤ h → counts xs ≤ h * weight gs
  unfolding weight
  each_counted h all [] NoPart d l = omega arith
  each_counted h all [] (Part x xs) d l = absurd d
  each_counted h all (g ∷ gs) NoPart d l = absurd d
  each_counted h all (g ∷ gs) (Part x xs) d l =
      let a = all g.0 g.1 x d.0 (omega arith) in
      let b = each_counted h all gs xs d.1 (omega arith) in
      omega arith

  pattern_counted : (h : ℕ) → Counted h → (p : MPattern) (t : MTree) (gs : List Goal) (xs : MParts) → goals_at p t ≡ Some gs → DeriveEach rules gs xs → tallest xs ≤ h → counts xs ≤ h * nodes t
  pattern_counted h all p t gs xs e d l =
      let a = each_counted h all gs xs d l in
      let b = mul-le-mul_left h (weight_le p t gs e) in
      omega arith

  counted : (h : ℕ) → Counted h
  counted zero n t (Apply a xs) d l = absurd (omega arith)
  counted (suc h) n t (Apply a xs) (i, r, goals, number, is, left, met, fits, each) l =
      let a = pattern_counted h (counted h) (pattern_of r.pattern) t goals xs fits each (omega arith) in
      let b = nodes_pos t in
      omega arith

rule_cheap : (o : Option Rule) → ((r : Rule) → o ≡ Some r → r.cost ≤ 32766) → cost_of o ≤ 32766
rule_cheap None h = omega arith
rule_cheap (Some r) h = h r refl

module _ (rules : List Rule) (fine : AreRules rules) where
  mutual
    cheap : (x : MDerivation) → cost rules x ≤ 32766 * count x
    cheap (Apply a xs) =
        let h = rule_cheap (slice_get rules (a - 1)) (λ r e. fine.cheap (a - 1) r e) in
        let k = all_cheap xs in
        omega arith

    all_cheap : (xs : MParts) → costs rules xs ≤ 32766 * counts xs
    all_cheap NoPart = omega arith
    all_cheap (Part x xs) = let h = cheap x in let k = all_cheap xs in omega arith

  -- parts that a search finds have few rules and are cheap
  pub small : (p : MPattern) (t : MTree) (h : ℕ) (f : Found) → h ≤ 2 ^ 23 → nodes t ≤ 65535 → IsLeastOf (told_of_parts rules) (PartsWithin rules p t h) (Some f) → (f.cost ≤ 2 ^ 54) × (f.count ≤ 2 ^ 39)
  small p t h f hs ns (xs, w, e, others) =
      let a = pattern_counted rules h (counted rules h) p t w.goals xs w.fits w.each w.low in
      let b = mul-le-mul_left h ns in
      let c = all_cheap xs in
      let d = ap (λ (z : Found). z.cost) e in
      let g = ap (λ (z : Found). z.count) e in
      let k : h * 65535 ≤ 2 ^ 39 = omega arith in
      (omega arith, omega arith)

pub room_small : (q : ℕ) (t : MTree) → q ≤ 127 → room q t ≤ 127 * nodes t
room_small q (TLeaf op v) h = omega arith
room_small q (TOne op v a) h = let k = room_small q a h in omega arith
room_small q (TTwo op v a b) h = let k = room_small q a h in let l = room_small q b h in omega arith

pub one_room : (q : ℕ) (t a : MTree) → q ≤ 127 → nodes t ≤ 65535 → slice_get (kids_of t) 0 ≡ Some a → room q a + q < 2 ^ 32
one_room q (TLeaf op v) a h k e = cc
one_room q (TOne op v b) a h k e = let f : b ≡ a = cc in let l = room_small q a h in let m = ap nodes f in omega arith
one_room q (TTwo op v b d) a h k e = let f : b ≡ a = cc in let l = room_small q a h in let m = ap nodes f in omega arith

pub two_rooms : (q : ℕ) (t a : MTree) → q ≤ 127 → nodes t ≤ 65535 → slice_get (kids_of t) 1 ≡ Some a → room q a + q < 2 ^ 32
two_rooms q (TLeaf op v) a h k e = cc
two_rooms q (TOne op v b) a h k e = cc
two_rooms q (TTwo op v b d) a h k e = let f : d ≡ a = cc in let l = room_small q a h in let m = ap nodes f in omega arith

pub first_kid_small : (t a : MTree) → nodes t ≤ 65535 → slice_get (kids_of t) 0 ≡ Some a → nodes a ≤ 65535
first_kid_small (TLeaf op v) a h e = cc
first_kid_small (TOne op v b) a h e = let f : b ≡ a = cc in let m = ap nodes f in omega arith
first_kid_small (TTwo op v b d) a h e = let f : b ≡ a = cc in let m = ap nodes f in omega arith

pub second_kid_small : (t a : MTree) → nodes t ≤ 65535 → slice_get (kids_of t) 1 ≡ Some a → nodes a ≤ 65535
second_kid_small (TLeaf op v) a h e = cc
second_kid_small (TOne op v b) a h e = cc
second_kid_small (TTwo op v b d) a h e = let f : d ≡ a = cc in let m = ap nodes f in omega arith
