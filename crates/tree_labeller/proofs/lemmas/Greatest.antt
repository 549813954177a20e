-- A derivation that follows the cells is the best.
use Rattle.std.proofs.Common.{◌≡◌, ℕ, ◌+◌, ◌≤◌, Some, None, List, [], ◌∷◌, ◌++◌, refl, sym, ap, ◌∙◌, arith, subst, inl, inr, ◌⊎◌, ⊎_elim}
use Rattle.std.specs.Prelude.{slice_get}
use Rattle.std.proofs.lemmas.Bool.{cases_lt}
use Rattle.lburg_tables.specs.declared.cell.Cell.{Cell}
use Rattle.tree_labeller.specs.Rows.{Row}
use Rattle.lburg_model.specs.declared.rule.Rule.{Rule}
use Rattle.lburg_model.specs.Tree.{MTree, nodes}
use Rattle.lburg_model.specs.Pattern.{MPattern, pattern_of}
use Rattle.lburg_model.specs.Best.{Earlier}
use Rattle.tree_labeller.specs.Indexed.{Derivation, Uses, Parts, AtHole, AtLeaf, AtOne, AtTwo, cost, costs, count, counts, numbers, numbers_in, Less, ByCost, ByCount, ByRules, IsBest}
use Rattle.tree_labeller.specs.Labelled.{cell, Labelled}
use Rattle.tree_labeller.proofs.lemmas.Least.{least_cell}
use Rattle.tree_labeller.specs.Following.{Follows, FollowIn}
use Rattle.tree_labeller.specs.Followed.{derived}

abbrev Upto : ℕ → ℕ → List ℕ → ℕ → ℕ → List ℕ → Type 0
Upto k m xs k' m' xs' = ((k ≡ k') × (m ≡ m') × (xs ≡ xs')) ⊎ Less k m xs k' m' xs'

earlier_front : (xs ys zs : List ℕ) → Earlier ys zs → Earlier (xs ++ ys) (xs ++ zs)
earlier_front [] ys zs e = e
earlier_front (x ∷ xs) ys zs e = inr (refl, earlier_front xs ys zs e)

earlier_more : (xs ys us vs : List ℕ) → Earlier xs ys → Earlier (xs ++ us) (ys ++ vs)
earlier_more [] ys us vs e = absurd e
earlier_more (x ∷ xs) [] us vs e = absurd e
earlier_more (x ∷ xs) (y ∷ ys) us vs (inl h) = inl h
earlier_more (x ∷ xs) (y ∷ ys) us vs (inr h) = inr (h.0, earlier_more xs ys us vs h.1)

-- from numbers alone
from_cost : (k m k' m' : ℕ) (xs xs' : List ℕ) → k ≤ k' → (k ≡ k' → m ≤ m') → (k ≡ k' → m ≡ m' → Upto k m xs k' m' xs') → Upto k m xs k' m' xs'
from_cost k m k' m' xs xs' a b c =
    ⊎_elim
    (λ lt. inr (ByCost lt))
    (λ ge. let e : k ≡ k' = omega arith in ⊎_elim (λ lt. inr (ByCount e lt)) (λ ge2. c e (omega (arith, b e))) (cases_lt m m'))
    (cases_lt k k')

joined : (k m : ℕ) (xs : List ℕ) (k' m' : ℕ) (xs' : List ℕ) (l n : ℕ) (ys : List ℕ) (l' n' : ℕ) (ys' : List ℕ) → Upto k m xs k' m' xs' → Upto l n ys l' n' ys' → Upto (k + l) (m + n) (xs ++ ys) (k' + l') (m' + n') (xs' ++ ys')
joined k m xs k' m' xs' l n ys l' n' ys' (inl a) (inl b) = inl (omega arith, omega arith, cc)
joined k m xs k' m' xs' l n ys l' n' ys' (inl a) (inr (ByCost h)) = inr (ByCost (omega arith))
joined k m xs k' m' xs' l n ys l' n' ys' (inl a) (inr (ByCount e h)) = inr (ByCount (omega arith) (omega arith))
joined k m xs k' m' xs' l n ys l' n' ys' (inl a) (inr (ByRules e f h)) = inr (ByRules (omega arith) (omega arith) (let P : List ℕ → Type 0 = λ zs. Earlier (xs ++ ys) (zs ++ ys') in subst P a.2 (earlier_front xs ys ys' h)))
joined k m xs k' m' xs' l n ys l' n' ys' (inr (ByCost h)) (inl b) = inr (ByCost (omega arith))
joined k m xs k' m' xs' l n ys l' n' ys' (inr (ByCost h)) (inr (ByCost g)) = inr (ByCost (omega arith))
joined k m xs k' m' xs' l n ys l' n' ys' (inr (ByCost h)) (inr (ByCount e g)) = inr (ByCost (omega arith))
joined k m xs k' m' xs' l n ys l' n' ys' (inr (ByCost h)) (inr (ByRules e f g)) = inr (ByCost (omega arith))
joined k m xs k' m' xs' l n ys l' n' ys' (inr (ByCount e h)) (inl b) = inr (ByCount (omega arith) (omega arith))
joined k m xs k' m' xs' l n ys l' n' ys' (inr (ByCount e h)) (inr (ByCost g)) = inr (ByCost (omega arith))
joined k m xs k' m' xs' l n ys l' n' ys' (inr (ByCount e h)) (inr (ByCount f g)) = inr (ByCount (omega arith) (omega arith))
joined k m xs k' m' xs' l n ys l' n' ys' (inr (ByCount e h)) (inr (ByRules f f' g)) = inr (ByCount (omega arith) (omega arith))
joined k m xs k' m' xs' l n ys l' n' ys' (inr (ByRules e f h)) (inl b) = inr (ByRules (omega arith) (omega arith) (earlier_more xs xs' ys ys' h))
joined k m xs k' m' xs' l n ys l' n' ys' (inr (ByRules e f h)) (inr (ByCost g)) = inr (ByCost (omega arith))
joined k m xs k' m' xs' l n ys l' n' ys' (inr (ByRules e f h)) (inr (ByCount e' g)) = inr (ByCount (omega arith) (omega arith))
joined k m xs k' m' xs' l n ys l' n' ys' (inr (ByRules e f h)) (inr (ByRules e' f' g)) = inr (ByRules (omega arith) (omega arith) (earlier_more xs xs' ys ys' h))

-- a rule more at the head of both
headed : (i j k0 l0 k m : ℕ) (xs : List ℕ) (k' m' : ℕ) (xs' : List ℕ) → i ≡ j → k0 ≡ l0 → Upto k m xs k' m' xs' → Upto (k0 + k) (1 + m) (i ∷ xs) (l0 + k') (1 + m') (j ∷ xs')
headed i j k0 l0 k m xs k' m' xs' ij kl (inl a) = inl (omega arith, omega arith, cc)
headed i j k0 l0 k m xs k' m' xs' ij kl (inr (ByCost h)) = inr (ByCost (omega arith))
headed i j k0 l0 k m xs k' m' xs' ij kl (inr (ByCount e h)) = inr (ByCount (omega arith) (omega arith))
headed i j k0 l0 k m xs k' m' xs' ij kl (inr (ByRules e f h)) = inr (ByRules (omega arith) (omega arith) (inr (ij, h)))

module _ (rows : List Row) (d : List Rule) (w : ℕ) where
  mutual
    -- the derivations' types are apart, since one match on two of one type would need axiom K
    best : {n n' : ℕ} {t t' : MTree} (e : Derivation d n t) (f : Derivation d n' t') → n ≡ n' → t ≡ t' → (at : ℕ) → Labelled rows d w at t → Follows rows d f at → Upto (cost f) (count f) (numbers f) (cost e) (count e) (numbers e)
    best {n} {n'} {t} {t'} (Uses i r is left x) (Uses j s is' left' y) ne te at fair fol =
        let (c, here, rule, of, many, rest) = fol in
        let l = least_cell rows d w (Uses i r is left x) at fair in
        let same : l.0 ≡ c = cc in
        let k1 : l.0.cost ≡ c.cost = ap (λ (z : Cell). z.cost) same in
        let k2 : l.0.count ≡ c.count = ap (λ (z : Cell). z.count) same in
        let k3 : l.0.rule ≡ c.rule = ap (λ (z : Cell). z.rule) same in
        from_cost _ _ _ _ _ _ (omega arith) (λ e. omega arith)
        (λ e1 e2.
        ⊎_elim
        (λ lt. inr (ByRules e1 e2 (inl lt)))
        (λ ge.
        let ij : i ≡ j = omega arith in
        let rs : r ≡ s = (let g : Some r ≡ Some s = sym is.0 ∙ ap (slice_get d) ij ∙ is'.0 in cc) in
        headed (j + 1) (i + 1) s.cost r.cost _ _ _ _ _ _ (omega arith) (ap (λ (z : Rule). z.cost) (sym rs)) (best_in x y (ap (λ (z : Rule). pattern_of z.pattern) rs) te at fair rest))
        (cases_lt (j + 1) (i + 1)))

    best_in : {p p' : MPattern} {t t' : MTree} (x : Parts d p t) (y : Parts d p' t') → p ≡ p' → t ≡ t' → (at : ℕ) → Labelled rows d w at t → FollowIn rows d y at → Upto (costs y) (counts y) (numbers_in y) (costs x) (counts x) (numbers_in x)
    best_in (AtHole {n = n} e) (AtHole {n = n'} f) pe te at fair fol = let ne : n ≡ n' = cc in best e f ne te at fair fol
    best_in AtLeaf AtLeaf pe te at fair fol = inl (refl, refl, refl)
    best_in (AtOne {p = p} {a = a} x) (AtOne {p = p'} {a = a'} y) pe te at fair fol =
        let pp : p ≡ p' = cc in
        let aa : a ≡ a' = cc in
        best_in x y pp aa (at + 1) fair.1 fol
    best_in (AtTwo {p = p} {q = q} {a = a} {b = b} x u) (AtTwo {p = p'} {q = q'} {a = a'} {b = b'} y v) pe te at fair fol =
        let pp : p ≡ p' = cc in
        let qq : q ≡ q' = cc in
        let aa : a ≡ a' = cc in
        let bb : b ≡ b' = cc in
        let F : MTree → Type 0 = λ z. FollowIn rows d v (at + 1 + nodes z) in
        joined _ _ _ _ _ _ _ _ _ _ _ _ (best_in x y pp aa (at + 1) fair.1.0 fol.0) (best_in u v qq bb (at + 1 + nodes a) fair.1.1 (subst F (sym aa) fol.1))
    best_in x y pe te at fair fol = cc

  -- the cell tells the best derivation
  pub found : (n : ℕ) (t : MTree) (at : ℕ) (c : Cell) → Labelled rows d w at t → cell rows at n ≡ Some c → (e : Derivation d n t) × (cost e ≡ c.cost) × (count e ≡ c.count) × IsBest e
  found n t at c fair here =
      let x = derived rows d w n t at c fair here in
      (x.0, x.1, x.2, λ other. ⊎_elim (λ s. inl s.2) (λ l. inr l) (best other x.0 refl refl at fair x.3))

  -- no cell, no derivation
  pub none : (n : ℕ) (t : MTree) (at : ℕ) → Labelled rows d w at t → cell rows at n ≡ None → Derivation d n t → ⊥
  none n t at fair empty e = let l = least_cell rows d w e at fair in cc

  -- a derivation that follows the cells is the best
  pub follows_best : (n : ℕ) (t : MTree) (at : ℕ) (e : Derivation d n t) → Labelled rows d w at t → Follows rows d e at → IsBest e
  follows_best n t at e l f = λ other. ⊎_elim (λ s. inl s.2) (λ l. inr l) (best other e refl refl at l f)
