-- Parts that a pattern takes, and follow the cells.
use Rattle.std.proofs.Common.{◌≡◌, ◌≢◌, ℕ, ◌+◌, ◌-◌, Option, Some, None, List, refl, sym, ap, ◌∙◌, arith, subst}
use Rattle.std.specs.Prelude.{ℤ, slice_get, ◌==◌, if◌then◌else◌, Bool, true, false}
use Rattle.std.proofs.lemmas.Bool.{eqb-true, eq-eqb}
use Rattle.lburg_tables.specs.declared.cell.Cell.{Cell}
use Rattle.place_queue.specs.declared.key.Key.{Key}
use Rattle.tree_labeller.specs.Rows.{Row}
use Rattle.lburg_model.specs.declared.rule.Rule.{Rule}
use Rattle.lburg_model.specs.Tree.{MTree, TLeaf, TOne, TTwo, nodes, kids_of, value_of}
use Rattle.lburg_model.specs.Range.{IsMet}
use Rattle.lburg_tables.specs.Offers.{Offers}
use Rattle.lburg_model.specs.Pattern.{MPattern, PHole, PLeaf, POne, PTwo, pattern_of}
use Rattle.tree_labeller.specs.Indexed.{Derivation, Parts, Uses, AtHole, AtLeaf, AtOne, AtTwo, costs, counts}
use Rattle.tree_labeller.specs.Labelled.{add, nothing_used, cell, total, Labelled}
use Rattle.lburg_tables.specs.RowOf.{key_of}
use Rattle.tree_labeller.specs.Following.{Follows, FollowIn}
use Rattle.tree_labeller.specs.Chosen.{Chosen}
use Rattle.tree_labeller.specs.Totals.{sound_of}

key_eq : (a b a' b' : ℕ) → a ≡ a' → b ≡ b' → ◌≡◌ {A = Option Key} (Some (record { cost = a; count = b })) (Some (record { cost = a'; count = b' }))
key_eq a b a' b' e f = cc

fits : (op : ℕ) (x y : Option Key) → (if op == op then x else y) ≡ x
fits op x y = rw (eq-eqb op op refl) refl

fits_by : (b : Bool) (x : Option Key) → (if b then x else None) ≢ None → b ≡ true
fits_by true x h = refl
fits_by false x h = absurd (h refl)

fits_some : (op op' : ℕ) (x : Option Key) → (if op == op' then x else None) ≢ None → op ≡ op'
fits_some op op' x h = eqb-true op op' (fits_by (op == op') x h)

module _ (rows : List Row) (d : List Rule) where
  -- parts for the pattern that follow the cells, of which a fact holds
  abbrev pub Taken : (p : MPattern) (t : MTree) → ℕ → (Parts d p t → Type 0) → Type 0
  Taken p t at Holds = (x : Parts d p t) × (Some (record { cost = costs x; count = counts x }) ≡ total rows p t at) × FollowIn rows d x at × Holds x

  -- the rule of this number with these parts is a derivation that follows the cells
  abbrev pub Follower : (n : ℕ) (t : MTree) (at number : ℕ) (r : Rule) → Parts d (pattern_of r.pattern) t → Type 0
  Follower n t at number r x = (i : ℕ) × (is : Offers d (value_of t) i r) × (left : r.left ≡ n) × (number ≡ i + 1) × Follows rows d (Uses i r is left x) at

  pub follower : (w n : ℕ) (t : MTree) (at number : ℕ) (r : Rule) (x : Parts d (pattern_of r.pattern) t) → Labelled rows d w at t → cell rows at n ≢ None → Chosen rows d n t at number → slice_get d (number - 1) ≡ Some r → Some (record { cost = costs x; count = counts x }) ≡ total rows (pattern_of r.pattern) t at → FollowIn rows d x at → Follower n t at number r x
  follower w n t at number r x l some ch is tot fol = by_cell (cell rows at n) refl
    where
      by_cell : (o : Option Cell) → cell rows at n ≡ o → Follower n t at number r x
      by_cell None e = absurd (some e)
      by_cell (Some c) e =
          let (i, q, k, isq, left, totq, rule, of, many) = (sound_of rows d w at t l).fair.made n c e in
          let num = ch.is_rule c e in
          let j : number - 1 ≡ i = omega arith in
          let f = ap (slice_get d) j in
          let there = isq.0 in
          let qr : q ≡ r = (let g : Some q ≡ Some r = cc in cc) in
          let F : Rule → Type 0 = λ z. total rows (pattern_of z.pattern) t at ≡ Some k in
          let h = subst F qr totq in
          let ks : record { cost = costs x; count = counts x } ≡ k = cc in
          let k1 = ap (λ (z : Key). z.cost) ks in
          let k2 = ap (λ (z : Key). z.count) ks in
          let rc = ap (λ (z : Rule). z.cost) qr in
          let rl = ap (λ (z : Rule). z.left) qr in
          let isr : Offers d (value_of t) i r = (isq.0 ∙ ap Some qr, subst (λ (z : Rule). IsMet z.range (value_of t)) qr isq.1) in
          let ni : number ≡ i + 1 = omega arith in
          (i, isr, sym rl ∙ left, ni, (c, e, rule, omega arith, omega arith, fol))

  pub taken_hole : (n : ℕ) (t : MTree) (at : ℕ) (Holds : Parts d (PHole n) t → Type 0) (e : Derivation d n t) → Follows rows d e at → Holds (AtHole e) → Taken (PHole n) t at Holds
  taken_hole n t at Holds (Uses i r is left x) fol h =
      let (c, here, rule, of, many, rest) = fol in
      (AtHole (Uses i r is left x), key_eq _ _ _ _ (sym of) (sym many) ∙ sym (ap key_of here), fol, h)

  pub taken_leaf : (op : ℕ) (t : MTree) (at : ℕ) (Holds : (u : MTree) → Parts d (PLeaf op) u → Type 0) → total rows (PLeaf op) t at ≢ None → ((v : Option ℤ) → Holds (TLeaf op v) AtLeaf) → Taken (PLeaf op) t at (Holds t)
  taken_leaf op (TLeaf op' v) at Holds some h =
      let F : ℕ → Type 0 = λ o. Taken (PLeaf op) (TLeaf o v) at (Holds (TLeaf o v)) in
      subst F (fits_some op op' _ some) (AtLeaf, sym (fits op (Some nothing_used) None), tt, h v)
  taken_leaf op (TOne op' v a) at Holds some h = absurd (some refl)
  taken_leaf op (TTwo op' v a b) at Holds some h = absurd (some refl)

  pub taken_one : (op : ℕ) (p : MPattern) (t a : MTree) (at : ℕ) (Of : (u : MTree) → Parts d p u → Type 0) (Holds : (u : MTree) → Parts d (POne op p) u → Type 0) → total rows (POne op p) t at ≢ None → slice_get (kids_of t) 0 ≡ Some a → ((v : Option ℤ) (u : MTree) (x : Parts d p u) → Of u x → Holds (TOne op v u) (AtOne x)) → Taken p a (at + 1) (Of a) → Taken (POne op p) t at (Holds t)
  taken_one op p (TLeaf op' v) a at Of Holds some k h x = absurd (some refl)
  taken_one op p (TTwo op' v b c) a at Of Holds some k h x = absurd (some refl)
  taken_one op p (TOne op' v b) a at Of Holds some k h x =
      let F : ℕ → Type 0 = λ o. Taken (POne op p) (TOne o v b) at (Holds (TOne o v b)) in
      let G : MTree → Type 0 = λ z. Taken p z (at + 1) (Of z) in
      let ab : a ≡ b = cc in
      let y = subst G ab x in
      subst F (fits_some op op' _ some) (AtOne y.0, y.1 ∙ sym (fits op _ None), y.2, h v b y.0 y.3)

  pub taken_two : (op : ℕ) (p q : MPattern) (t a b : MTree) (at : ℕ) (First : (u : MTree) → Parts d p u → Type 0) (Second : (u : MTree) → Parts d q u → Type 0) (Holds : (u : MTree) → Parts d (PTwo op p q) u → Type 0) → total rows (PTwo op p q) t at ≢ None → slice_get (kids_of t) 0 ≡ Some a → slice_get (kids_of t) 1 ≡ Some b → ((v : Option ℤ) (u z : MTree) (x : Parts d p u) (y : Parts d q z) → First u x → Second z y → Holds (TTwo op v u z) (AtTwo x y)) → Taken p a (at + 1) (First a) → Taken q b (at + 1 + nodes a) (Second b) → Taken (PTwo op p q) t at (Holds t)
  taken_two op p q (TLeaf op' v) a b at First Second Holds some k l h x y = absurd (some refl)
  taken_two op p q (TOne op' v f) a b at First Second Holds some k l h x y = absurd (some refl)
  taken_two op p q (TTwo op' v f g) a b at First Second Holds some k l h x y =
      let F : ℕ → Type 0 = λ o. Taken (PTwo op p q) (TTwo o v f g) at (Holds (TTwo o v f g)) in
      let af : a ≡ f = cc in
      let bg : b ≡ g = cc in
      let X : MTree → Type 0 = λ z. Taken p z (at + 1) (First z) in
      let Y1 : MTree → Type 0 = λ z. Taken q b (at + 1 + nodes z) (Second b) in
      let Y2 : MTree → Type 0 = λ z. Taken q z (at + 1 + nodes f) (Second z) in
      let u = subst X af x in
      let w = subst Y2 bg (subst Y1 af y) in
      let ky : Key = record { cost = costs w.0; count = counts w.0 } in
      let tot = ap (λ (z : Option Key). add z (Some ky)) u.1 ∙ ap (λ (z : Option Key). add (total rows p f (at + 1)) z) w.1 in
      subst F (fits_some op op' _ some) (AtTwo u.0 w.0, tot ∙ sym (fits op _ None), (u.2, w.2), h v f g u.0 w.0 u.3 w.3)
