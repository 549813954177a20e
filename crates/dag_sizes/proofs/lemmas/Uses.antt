-- Uses of nodes, and what they add up to.
use Rattle.std.proofs.Common.{◌≡◌, ⊎_elim, ℕ, ◌+◌, ◌*◌, ◌<◌, ◌==◌, Bool, true, false, true≢false, List, [], ◌∷◌, ◌++◌, refl, sym, ap, ◌∙◌, arith}
use Rattle.std.specs.Prelude.{cond, if◌then◌else◌, ◌||◌}
use Rattle.std.proofs.lemmas.Bool.{cases_eq, eq-eqb, ne_eqb}
use Rattle.dag_forest.specs.declared.act.Act.{Act}
use Rattle.dag_forest.specs.declared.act.Act.TheVariants.{Made, Acts}
use Rattle.dag_forest.specs.declared.kids.Kids.{Kids}
use Rattle.dag_forest.specs.declared.kids.Kids.TheVariants.{Zero, One, Two}
use Rattle.dag_forest.specs.Choice.{hits, in_kids, counts}
use Rattle.dag_forest.specs.Schedules.{at, is_in, kids_list, all_uses, used}
use Rattle.dag_forest.proofs.lemmas.Maps.{at_new, at_old}
use Rattle.dag_seam.proofs.lemmas.Within.{or_false}

pub hit : (m n : ℕ) → m ≡ n → hits m n ≡ 1
hit m n e = ap (λ b. cond b 1 0) (eq-eqb m n e)

pub miss : (m n : ℕ) → (m ≡ n → ⊥) → hits m n ≡ 0
miss m n ne = ap (λ b. cond b 1 0) (ne_eqb m n ne)

-- ---- sums over operands

abbrev pub sum_kids : Kids → (ℕ → ℕ) → ℕ
sum_kids Zero f = 0
sum_kids (One a) f = f a
sum_kids (Two a c) f = f a + f c

-- over all uses in the acts
abbrev pub sum_uses : List Act → (ℕ → ℕ) → ℕ
sum_uses [] f = 0
sum_uses (Made n x ∷ as') f = sum_kids x.kids f + sum_uses as' f
sum_uses (Acts x ∷ as') f = sum_kids x.kids f + sum_uses as' f

one_at : (f : ℕ → ℕ) (n g a : ℕ) → f n ≡ 0 → at f n g a ≡ f a + hits n a * g
one_at f n g a z = ⊎_elim
    (λ e. let p : at f n g a ≡ g = ap (at f n g) e ∙ at_new f n g in let q : f a ≡ 0 = ap f e ∙ z in
    let h : hits n a * g ≡ 1 * g = ap (λ k. k * g) (hit n a (sym e)) in omega (arith, p, q, h))
    (λ ne. let p = at_old f n g a ne in let h : hits n a * g ≡ 0 * g = ap (λ k. k * g) (miss n a (λ e. ne (sym e))) in omega (arith, p, h))
    (cases_eq a n)

pub kids_at : (k : Kids) (f : ℕ → ℕ) (n g : ℕ) → f n ≡ 0 → sum_kids k (at f n g) ≡ sum_kids k f + in_kids k n * g
kids_at Zero f n g z = omega arith
kids_at (One a) f n g z = one_at f n g a z
kids_at (Two a c) f n g z =
    let p = one_at f n g a z in let q = one_at f n g c z in
    let d : (hits n a + hits n c) * g ≡ hits n a * g + hits n c * g = distribute (hits n a) (hits n c) g in
    omega (arith, p, q, d)
  where
    distribute : (a b g : ℕ) → (a + b) * g ≡ a * g + b * g
    distribute a b g = search arith

distribute : (a b g : ℕ) → (a + b) * g ≡ a * g + b * g
distribute a b g = search arith

pub uses_at : (xs : List Act) (f : ℕ → ℕ) (n g : ℕ) → f n ≡ 0 → sum_uses xs (at f n g) ≡ sum_uses xs f + counts xs n * g
uses_at [] f n g z = omega arith
uses_at (Made m x ∷ xs) f n g z =
    let p = kids_at x.kids f n g z in let q = uses_at xs f n g z in
    let d = distribute (in_kids x.kids n) (counts xs n) g in omega (arith, p, q, d)
uses_at (Acts x ∷ xs) f n g z =
    let p = kids_at x.kids f n g z in let q = uses_at xs f n g z in
    let d = distribute (in_kids x.kids n) (counts xs n) g in omega (arith, p, q, d)

pub no_uses : (xs : List Act) → sum_uses xs (λ m. 0) ≡ 0
no_uses [] = refl
no_uses (Made m x ∷ xs) = let p = none x.kids in let q = no_uses xs in omega (arith, p, q)
  where
    none : (k : Kids) → sum_kids k (λ m. 0) ≡ 0
    none Zero = refl
    none (One a) = refl
    none (Two a c) = omega arith
no_uses (Acts x ∷ xs) = let p = none x.kids in let q = no_uses xs in omega (arith, p, q)
  where
    none : (k : Kids) → sum_kids k (λ m. 0) ≡ 0
    none Zero = refl
    none (One a) = refl
    none (Two a c) = omega arith

-- ---- who is used

hits_by : (m a : ℕ) (b : Bool) → ((m == a) || b) ≡ false → (hits m a ≡ 0) × (b ≡ false)
hits_by m a b h = let o = or_false (m == a) b h in (ap (λ z. cond z 1 0) o.0, o.1)

kids_out : (k : Kids) (rest : List ℕ) (m : ℕ) → is_in m (kids_list k ++ rest) ≡ false → (in_kids k m ≡ 0) × (is_in m rest ≡ false)
kids_out Zero rest m h = (refl, h)
kids_out (One a) rest m h = hits_by m a (is_in m rest) h
kids_out (Two a c) rest m h =
    let p = hits_by m a ((m == c) || is_in m rest) h in
    let q = hits_by m c (is_in m rest) p.1 in
    let z = p.0 in let y = q.0 in (omega (arith, z, y), q.1)

-- a node that isn't among the uses isn't used
pub not_used : (xs : List Act) (m : ℕ) → is_in m (all_uses xs) ≡ false → counts xs m ≡ 0
not_used [] m h = refl
not_used (Made n x ∷ xs) m h = let p = kids_out x.kids (all_uses xs) m h in let a = p.0 in let q = not_used xs m p.1 in omega (arith, a, q)
not_used (Acts x ∷ xs) m h = let p = kids_out x.kids (all_uses xs) m h in let a = p.0 in let q = not_used xs m p.1 in omega (arith, a, q)

hits_in : (m a k : ℕ) (b rest : Bool) → (m == a) ≡ b → (b || rest) ≡ true → (rest ≡ true → 0 < k) → 0 < cond b 1 0 + k
hits_in m a k true rest e h f = omega arith
hits_in m a k false rest e h f = let l = f h in omega (arith, l)

kids_in : (k : Kids) (rest : List ℕ) (m c : ℕ) → is_in m (kids_list k ++ rest) ≡ true → (is_in m rest ≡ true → 0 < c) → 0 < in_kids k m + c
kids_in Zero rest m c h f = let l = f h in omega (arith, l)
kids_in (One a) rest m c h f = hits_in m a c (m == a) (is_in m rest) refl h f
kids_in (Two a b) rest m c h f =
    let l = hits_in m a (hits m b + c) (m == a) ((m == b) || is_in m rest) refl h (λ q. hits_in m b c (m == b) (is_in m rest) refl q f) in omega (arith, l)

pub is_used : (xs : List Act) (m : ℕ) → is_in m (all_uses xs) ≡ true → 0 < counts xs m
is_used [] m h = absurd (true≢false (sym h))
is_used (Made n x ∷ xs) m h = kids_in x.kids (all_uses xs) m (counts xs m) h (is_used xs m)
is_used (Acts x ∷ xs) m h = kids_in x.kids (all_uses xs) m (counts xs m) h (is_used xs m)

-- each node that is made is used behind it
abbrev pub AreUsed : List Act → Type 0
AreUsed [] = Unit {0}
AreUsed (Made n x ∷ as') = (0 < counts as' n) × AreUsed as'
AreUsed (Acts x ∷ as') = AreUsed as'

pub are_used : (xs : List Act) → AreUsed (used xs)
are_used [] = tt
are_used (Made n x ∷ xs) = by (is_in n (all_uses (used xs))) refl (are_used xs)
  where
    by : (b : Bool) → is_in n (all_uses (used xs)) ≡ b → AreUsed (used xs) → AreUsed (if b then Made n x ∷ used xs else used xs)
    by true e h = (is_used (used xs) n e, h)
    by false e h = h
are_used (Acts x ∷ xs) = are_used xs
