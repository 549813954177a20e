-- Where a nonterminal comes again on a way of chain rules at one subtree, the rules between can be cut out.
use Rattle.std.proofs.Common.{◌≡◌, ℕ, zero, suc, ◌+◌, ◌<◌, ◌≤◌, Bool, true, false, cond, Some, List, [], ◌∷◌, refl, sym, ap, ◌∙◌, arith, subst, inl, inr, ◌⊎◌, ⊎_elim}
use Rattle.std.specs.Prelude.{eqb, slice_get}
use Rattle.std.proofs.lemmas.Bool.{eqb-true, eq-eqb, cases_lt}
use Rattle.lburg_model.specs.declared.rule.Rule.{Rule}
use Rattle.lburg_model.specs.Range.{IsMet}
use Rattle.lburg_model.specs.Tree.{MTree, value_of}
use Rattle.lburg_model.specs.Pattern.{MPattern, PHole, PLeaf, POne, PTwo, Goal, pattern_of, goals_at}
use Rattle.lburg_model.specs.Derivation.{MDerivation, MParts, Apply, NoPart, Part, Derives, DeriveEach, cost, costs, count, counts}
use Rattle.plain_cover.specs.Height.{height, tallest}
use Rattle.plain_cover.specs.Room.{room}
use Rattle.plain_cover.proofs.Room.{below, room_below, Narrow, narrow}

-- how many of the first k nonterminals weren't seen
free : ℕ → (ℕ → Bool) → ℕ
free zero seen = 0
free (suc k) seen = free k seen + cond (seen k) 0 1

also : ℕ → (ℕ → Bool) → ℕ → Bool
also n seen m = cond (eqb n m) true (seen m)

two : (b : Bool) → (b ≡ true) ⊎ (b ≡ false)
two true = inl refl
two false = inr refl

n_below : (k n : ℕ) → n < suc k → eqb n k ≡ false → n < k
n_below k n h e = ⊎_elim (λ (lt : n < k). lt) (λ (ge : k ≤ n). absurd (let f : n ≡ k = omega arith in let g = eq-eqb n k f in cc)) (cases_lt n k)

also_other : (n : ℕ) (seen : ℕ → Bool) (m : ℕ) → eqb n m ≡ false → also n seen m ≡ seen m
unfolding also
also_other n seen m e = rw e refl

also_same : (n : ℕ) (seen : ℕ → Bool) → also n seen n ≡ true
unfolding also
also_same n seen = rw (eq-eqb n n refl) refl

also_cases : (n : ℕ) (seen : ℕ → Bool) (m : ℕ) → also n seen m ≡ true → (n ≡ m) ⊎ (seen m ≡ true)
also_cases n seen m e =
    ⊎_elim (λ same. inl (eqb-true n m same)) (λ other. inr (sym (also_other n seen m other) ∙ e)) (two (eqb n m))

free_above : (k n : ℕ) (seen : ℕ → Bool) → k ≤ n → free k (also n seen) ≡ free k seen
unfolding free
free_above zero n seen h = refl
free_above (suc k) n seen h =
    let e : eqb n k ≡ false = ⊎_elim (λ same. absurd (let f = eqb-true n k same in omega arith)) (λ other. other) (two (eqb n k)) in
    rw (also_other n seen k e) (rw (free_above k n seen (omega arith)) refl)

free_also : (k n : ℕ) (seen : ℕ → Bool) → n < k → seen n ≡ false → free k (also n seen) + 1 ≡ free k seen
unfolding free
free_also zero n seen h e = absurd (omega arith)
free_also (suc k) n seen h e =
    ⊎_elim
    (λ same.
    let f : n ≡ k = eqb-true n k same in
    let a : also n seen k ≡ true = subst (λ (z : ℕ). also n seen z ≡ true) f (also_same n seen) in
    let b : seen k ≡ false = subst (λ (z : ℕ). seen z ≡ false) f e in
    rw (a, b) (rw (free_above k n seen (omega arith)) (omega arith)))
    (λ other.
    let less : n < k = n_below k n h other in
    let a = also_other n seen k other in
    let b = free_also k n seen less e in
    rw a (omega arith))
    (two (eqb n k))

free_none : (k : ℕ) → free k (λ n. false) ≡ k
unfolding free
free_none zero = refl
free_none (suc k) = rw (free_none k) (omega arith)

-- a derivation that is no deeper than this, and no worse than another
pub record Trims (rules : List Rule) (n : ℕ) (t : MTree) (h : ℕ) (x : MDerivation) : Type 0 where
  pub to : MDerivation
  pub derives : Derives rules n t to
  pub low : height to ≤ h
  pub cheap : cost rules to ≤ cost rules x
  pub less : (to ≡ x) ⊎ (count to < count x)

record TrimsEach (rules : List Rule) (gs : List Goal) (h : ℕ) (xs : MParts) : Type 0 where
  to : MParts
  derives : DeriveEach rules gs to
  low : tallest to ≤ h
  cheap : costs rules to ≤ costs rules xs
  less : (to ≡ xs) ⊎ (counts to < counts xs)

-- a derivation of a nonterminal that was seen, within another
record Comes (rules : List Rule) (seen : ℕ → Bool) (t : MTree) (x : MDerivation) : Type 0 where
  n : ℕ
  was_seen : seen n ≡ true
  at : MDerivation
  derives : Derives rules n t at
  cheap : cost rules at ≤ cost rules x
  short : count at ≤ count x

less_count : (x y : MDerivation) → (x ≡ y) ⊎ (count x < count y) → count x ≤ count y
less_count x y (inl e) = let f = ap count e in omega arith
less_count x y (inr h) = omega arith

less_counts : (x y : MParts) → (x ≡ y) ⊎ (counts x < counts y) → counts x ≤ counts y
less_counts x y (inl e) = let f = ap counts e in omega arith
less_counts x y (inr h) = omega arith

less_part : (x y : MDerivation) (xs ys : MParts) → (x ≡ y) ⊎ (count x < count y) → (xs ≡ ys) ⊎ (counts xs < counts ys) → (Part x xs ≡ Part y ys) ⊎ (count x + counts xs < count y + counts ys)
less_part x y xs ys (inl e) (inl f) = inl (cc)
less_part x y xs ys (inl e) (inr h) = let f = ap count e in inr (omega arith)
less_part x y xs ys (inr h) f = let g = less_counts xs ys f in inr (omega arith)

less_whole : (a : ℕ) (xs ys : MParts) → (xs ≡ ys) ⊎ (counts xs < counts ys) → (Apply a xs ≡ Apply a ys) ⊎ (1 + counts xs < 1 + counts ys)
less_whole a xs ys (inl e) = inl (ap (Apply a) e)
less_whole a xs ys (inr h) = inr (omega arith)

module _ (rules : List Rule) (q : ℕ) (lefts : (i : ℕ) (r : Rule) → slice_get rules i ≡ Some r → r.left < q) where
  -- derivations of at most this count can be trimmed
  abbrev Trimmed : ℕ → Type 0
  Trimmed m = (n : ℕ) (t : MTree) (x : MDerivation) → count x ≤ m → Derives rules n t x → Trims rules n t (room q t) x

  abbrev Walked : ℕ → Type 0
  Walked m = (n : ℕ) (t : MTree) (seen : ℕ → Bool) (x : MDerivation) → count x ≤ m → Derives rules n t x → Trims rules n t (free q seen + below q t) x ⊎ Comes rules seen t x

  trimmed : (m : ℕ) → Walked m → Trimmed m
  trimmed m walk n t x h d =
      ⊎_elim
      (λ y. record { to = y.to; derives = y.derives; low = omega (arith, y.low, free_none q, room_below q t); cheap = y.cheap; less = y.less })
      (λ z. cc)
      (walk n t (λ n. false) x h d)

  trimmed_each : (m : ℕ) → Trimmed m → (gs : List Goal) (xs : MParts) (h : ℕ) → counts xs ≤ m → Narrow q h gs → DeriveEach rules gs xs → TrimsEach rules gs h xs
  trimmed_each m trim [] NoPart h c b d = record { to = NoPart; derives = tt; low = omega arith; cheap = omega arith; less = inl refl }
  trimmed_each m trim [] (Part x xs) h c b d = absurd d
  trimmed_each m trim (g ∷ gs) NoPart h c b d = absurd d
  trimmed_each m trim (g ∷ gs) (Part x xs) h c b d =
      let y = trim g.0 g.1 x (omega arith) d.0 in
      let ys = trimmed_each m trim gs xs h (omega arith) b.1 d.1 in
      record { to = Part y.to ys.to; derives = (y.derives, ys.derives); low = omega (arith, y.low, ys.low, b.0); cheap = omega (arith, y.cheap, ys.cheap); less = less_part y.to x ys.to xs y.less ys.less }

  -- how a rule is applied
  record Uses (n : ℕ) (t : MTree) (a i : ℕ) (r : Rule) (goals : List Goal) : Type 0 where
    number : a ≡ i + 1
    is : slice_get rules i ≡ Some r
    left : r.left ≡ n
    met : IsMet r.range (value_of t)
    fits : goals_at (pattern_of r.pattern) t ≡ Some goals

  derived : (n : ℕ) (t : MTree) (a i : ℕ) (r : Rule) (goals : List Goal) (parts : MParts) → Uses n t a i r goals → DeriveEach rules goals parts → Derives rules n t (Apply a parts)
  derived n t a i r goals parts u each = (i, r, goals, u.number, u.is, u.left, u.met, u.fits, each)

  n_low : (n : ℕ) (t : MTree) (a i : ℕ) (r : Rule) (goals : List Goal) → Uses n t a i r goals → n < q
  n_low n t a i r goals u = let h = lefts i r u.is in let e = u.left in omega arith

  apart : (m : ℕ) → Trimmed m → (n : ℕ) (t : MTree) (seen : ℕ → Bool) (a i : ℕ) (r : Rule) (goals : List Goal) (parts : MParts) → Uses n t a i r goals → Narrow q (below q t) goals → seen n ≡ false → counts parts ≤ m → DeriveEach rules goals parts → Trims rules n t (free q seen + below q t) (Apply a parts)
  apart m trim n t seen a i r goals parts u b s c each =
      let ys = trimmed_each m trim goals parts (below q t) c b each in
      let f = free_also q n seen (n_low n t a i r goals u) s in
      record { to = Apply a ys.to; derives = derived n t a i r goals ys.to u ys.derives; low = omega (arith, ys.low); cheap = omega (arith, ys.cheap); less = less_whole a ys.to parts ys.less }

  chained : (m : ℕ) → Walked m → (n : ℕ) (t : MTree) (seen : ℕ → Bool) (a i : ℕ) (r : Rule) (k : ℕ) (x : MDerivation) → Uses n t a i r ((k, t) ∷ []) → seen n ≡ false → count x ≤ m → Derives rules k t x → Trims rules n t (free q seen + below q t) (Apply a (Part x NoPart)) ⊎ Comes rules seen t (Apply a (Part x NoPart))
  chained m walk n t seen a i r k x u s c d =
      let f = free_also q n seen (n_low n t a i r ((k, t) ∷ []) u) s in
      ⊎_elim
      (λ y. inl (record { to = Apply a (Part y.to NoPart); derives = derived n t a i r ((k, t) ∷ []) (Part y.to NoPart) u (y.derives, tt); low = omega (arith, y.low); cheap = omega (arith, y.cheap); less = less_whole a (Part y.to NoPart) (Part x NoPart) (less_part y.to x NoPart NoPart y.less (inl refl)) }))
      (λ z.
      ⊎_elim
      (λ e.
      ⊎_elim
      (λ y. inl (record { to = y.to; derives = y.derives; low = y.low; cheap = omega (arith, y.cheap, z.cheap); less = inr (omega (arith, less_count y.to z.at y.less, z.short)) }))
      (λ v. inr (record { n = v.n; was_seen = v.was_seen; at = v.at; derives = v.derives; cheap = omega (arith, v.cheap, z.cheap); short = omega (arith, v.short, z.short) }))
      (walk n t seen z.at (omega (arith, z.short)) (subst (λ (w : ℕ). Derives rules w t z.at) (sym e) z.derives)))
      (λ e. inr (record { n = z.n; was_seen = e; at = z.at; derives = z.derives; cheap = omega (arith, z.cheap); short = omega (arith, z.short) }))
      (also_cases n seen z.n z.was_seen))
      (walk k t (also n seen) x c d)

  alone : (m : ℕ) → Walked m → (n : ℕ) (t : MTree) (seen : ℕ → Bool) (a i : ℕ) (r : Rule) (k : ℕ) (parts : MParts) → Uses n t a i r ((k, t) ∷ []) → seen n ≡ false → counts parts ≤ m → DeriveEach rules ((k, t) ∷ []) parts → Trims rules n t (free q seen + below q t) (Apply a parts) ⊎ Comes rules seen t (Apply a parts)
  alone m walk n t seen a i r k NoPart u s c d = absurd d
  alone m walk n t seen a i r k (Part x NoPart) u s c d = chained m walk n t seen a i r k x u s (omega arith) d.0
  alone m walk n t seen a i r k (Part x (Part y ys)) u s c d = absurd d.1

  by_pattern : (m : ℕ) → Walked m → (n : ℕ) (t : MTree) (seen : ℕ → Bool) (a i : ℕ) (r : Rule) (goals : List Goal) (parts : MParts) (p : MPattern) → goals_at p t ≡ Some goals → Uses n t a i r goals → seen n ≡ false → counts parts ≤ m → DeriveEach rules goals parts → Trims rules n t (free q seen + below q t) (Apply a parts) ⊎ Comes rules seen t (Apply a parts)
  by_pattern m walk n t seen a i r goals parts (PHole k) e u s c d =
      let f : goals ≡ ((k, t) ∷ []) = cc in
      alone m walk n t seen a i r k parts (subst (Uses n t a i r) f u) s c (subst (λ (gs : List Goal). DeriveEach rules gs parts) f d)
  by_pattern m walk n t seen a i r goals parts (PLeaf op) e u s c d = inl (apart m (trimmed m walk) n t seen a i r goals parts u (narrow q (PLeaf op) t goals e) s c d)
  by_pattern m walk n t seen a i r goals parts (POne op p) e u s c d = inl (apart m (trimmed m walk) n t seen a i r goals parts u (narrow q (POne op p) t goals e) s c d)
  by_pattern m walk n t seen a i r goals parts (PTwo op p p') e u s c d = inl (apart m (trimmed m walk) n t seen a i r goals parts u (narrow q (PTwo op p p') t goals e) s c d)

  walked : (m : ℕ) → Walked m
  walked zero n t seen (Apply a parts) h d = absurd (omega arith)
  walked (suc m) n t seen (Apply a parts) h d =
      ⊎_elim
      (λ e. inr (record { n = n; was_seen = e; at = Apply a parts; derives = d; cheap = omega arith; short = omega arith }))
      (λ e. by_pattern m (walked m) n t seen a d.0 d.1 d.2 parts (pattern_of d.1.pattern) d.7 (record { number = d.3; is = d.4; left = d.5; met = d.6; fits = d.7 }) e (omega arith) d.8)
      (two (seen n))

  -- each derivation has one that is no deeper than the tree's room, and no worse
  pub trim : (n : ℕ) (t : MTree) (x : MDerivation) → Derives rules n t x → Trims rules n t (room q t) x
  trim n t x d = trimmed (count x) (walked (count x)) n t x (omega arith) d
