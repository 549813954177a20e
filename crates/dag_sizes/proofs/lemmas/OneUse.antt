-- What one use more of a node costs.
use Rattle.std.proofs.Common.{◌≡◌, ⊎_elim, ℕ, zero, suc, ◌+◌, ◌*◌, ◌≤◌, Bool, true, false, true≢false, List, [], ◌∷◌, ◌++◌, refl, sym, ap, ◌∙◌, subst, arith}
use Rattle.std.specs.Prelude.{◌&&◌, ◌||◌, not, cond, if◌then◌else◌}
use Rattle.std.proofs.lemmas.Bool.{cases_eq}
use Rattle.dag_forest.specs.declared.act.Act.{Act}
use Rattle.dag_forest.specs.declared.act.Act.TheVariants.{Made, Acts}
use Rattle.dag_forest.specs.declared.kids.Kids.{Kids}
use Rattle.dag_forest.specs.declared.kids.Kids.TheVariants.{Zero, One, Two}
use Rattle.dag_forest.specs.declared.parts.Parts.{Parts}
use Rattle.dag_forest.specs.declared.uses.Times.{Times}
use Rattle.dag_forest.specs.declared.uses.Times.TheVariants.{Never, Once, More}
use Rattle.dag_forest.specs.Choice.{hits, in_kids, counts, times_of, is_above, late, ends_stretch, is_computed, is_needed, reads_by, kids_read}
use Rattle.dag_forest.specs.Emission.{AreOnce}
use Rattle.dag_forest.specs.Entries.{is_call, is_read}
use Rattle.dag_forest.specs.Schedules.{at}
use Rattle.dag_seam.specs.Rooms.{AreActs}
use Rattle.dag_forest.proofs.lemmas.Maps.{at_new, at_old}
use Rattle.dag_seam.proofs.lemmas.Within.{or_true, or_left, or_right}
use Rattle.dag_sizes.specs.Sizes.{store_size, read_size, node_size}
use Rattle.dag_sizes.specs.Weights.{is_heavy, weight_of, use_size}
use Rattle.dag_sizes.proofs.lemmas.Uses.{hit, miss}

-- ---- fewer reads

abbrev Implies : (ℕ → Bool) → (ℕ → Bool) → Type 0
Implies f g = (m : ℕ) → f m ≡ true → g m ≡ true

kids_more : (k : Kids) (f g : ℕ → Bool) → Implies f g → kids_read f k ≡ true → kids_read g k ≡ true
kids_more Zero f g i h = h
kids_more (One a) f g i h = i a h
kids_more (Two a c) f g i h = ⊎_elim (λ e. or_left (g a) (g c) (i a e)) (λ e. or_right (g a) (g c) (i c e)) (or_true (f a) (f c) h)

reads_more : (x : Parts) (f g : ℕ → Bool) → Implies f g → reads_by f x ≡ true → reads_by g x ≡ true
reads_more x f g i h = ⊎_elim
    (λ e. or_left (is_read x.operator.op) (is_call x.operator.op || kids_read g x.kids) e)
    (λ e. or_right (is_read x.operator.op) (is_call x.operator.op || kids_read g x.kids) (⊎_elim
    (λ q. or_left (is_call x.operator.op) (kids_read g x.kids) q)
    (λ q. or_right (is_call x.operator.op) (kids_read g x.kids) (kids_more x.kids f g i q))
    (or_true (is_call x.operator.op) (kids_read f x.kids) e)))
    (or_true (is_read x.operator.op) (is_call x.operator.op || kids_read f x.kids) h)

abbrev pub heavy_by : Bool → Bool → Times → Bool → Bool → Bool
heavy_by comp call t l r = comp && (call || is_needed t (l && r))

heavy_more : (comp call : Bool) (t : Times) (l r r1 : Bool) → (r ≡ true → r1 ≡ true) → heavy_by comp call t l r ≡ true → heavy_by comp call t l r1 ≡ true
heavy_more false call t l r r1 i h = h
heavy_more true true t l r r1 i h = refl
heavy_more true false Never l r r1 i h = h
heavy_more true false More l r r1 i h = refl
heavy_more true false Once false r r1 i h = h
heavy_more true false Once true r r1 i h = i h

light_more : (comp call : Bool) (t : Times) (l r r1 : Bool) → (r ≡ true → r1 ≡ true) → (not (heavy_by comp call t l r) && r) ≡ true → (not (heavy_by comp call t l r1) && r1) ≡ true
light_more comp call t l true true i h = h
light_more comp call t l true false i h = absurd (true≢false (sym (i refl)))
light_more comp call t l false r1 i h = absurd (never (not (heavy_by comp call t l false)) h)
  where
    never : (b : Bool) → (b && false) ≡ true → ⊥
    never true e = true≢false (sym e)
    never false e = true≢false (sym e)

heavy_computed : (comp call : Bool) (t : Times) (l r : Bool) → heavy_by comp call t l r ≡ true → comp ≡ true
heavy_computed true call t l r h = refl
heavy_computed false call t l r h = h

size_more : (x : Parts) (a b : Bool) (c : ℕ) → (a ≡ true → b ≡ true) → (b ≡ true → is_computed x ≡ true) → node_size a x c ≤ node_size b x c
size_more x true true c i h = omega arith
size_more x true false c i h = absurd (true≢false (sym (i refl)))
size_more x false false c i h = by (is_computed x)
  where
    by : (b : Bool) → (if b then 1 else c) ≤ (if b then 1 else c)
    by true = omega arith
    by false = omega arith
size_more x false true c i h = let e : (if is_computed x then 1 else c) ≡ 1 = ap (λ b. if b then 1 else c) (h refl) in omega (arith, e)

at_more : (f g : ℕ → Bool) (n : ℕ) (a b : Bool) → Implies f g → (a ≡ true → b ≡ true) → Implies (at f n a) (at g n b)
at_more f g n a b i h m e = ⊎_elim
    (λ q. ap (at g n b) q ∙ at_new g n b ∙ h (sym (ap (at f n a) q ∙ at_new f n a) ∙ e))
    (λ q. at_old g n b m q ∙ i m (sym (at_old f n a m q) ∙ e))
    (cases_eq m n)

pub less_reads : (zs : List Act) (f g : ℕ → Bool) → Implies f g → weight_of zs f ≤ weight_of zs g
less_reads [] f g i = omega arith
less_reads (Made n x ∷ zs) f g i =
    let comp = is_computed x in let call = is_call x.operator.op in let t = times_of (counts zs n) in let l = late zs n in
    let r = reads_more x f g i in
    let here = size_more x (is_heavy zs f n x) (is_heavy zs g n x) (counts zs n) (heavy_more comp call t l (reads_by f x) (reads_by g x) r) (heavy_computed comp call t l (reads_by g x)) in
    let later = less_reads zs (at f n (not (is_heavy zs f n x) && reads_by f x)) (at g n (not (is_heavy zs g n x) && reads_by g x)) (at_more f g n (not (is_heavy zs f n x) && reads_by f x) (not (is_heavy zs g n x) && reads_by g x) i (light_more comp call t l (reads_by f x) (reads_by g x) r)) in
    omega (arith, here, later)
less_reads (Acts x ∷ zs) f g i = let later = less_reads zs f g i in omega (arith, later)

-- ---- one use more

-- of the node itself
own_size : (st rd c : ℕ) (call : Bool) (a l r : Bool) → (if a then 1 + st + rd * suc c else 1) ≤ (if (call || is_needed (times_of c) (l && r)) then 1 + st + rd * c else 1) + (st + 2 * rd)
own_size st rd zero call a l r = by a (call || is_needed (times_of zero) (l && r)) (let e : rd * 1 ≡ rd = search arith in e)
  where
    by : (a b : Bool) → rd * 1 ≡ rd → (if a then 1 + st + rd * 1 else 1) ≤ (if b then 1 + st + rd * 0 else 1) + (st + 2 * rd)
    by true true e = omega (arith, e)
    by true false e = omega (arith, e)
    by false true e = omega arith
    by false false e = omega arith
own_size st rd (suc zero) call a l r = by a (call || is_needed (times_of (suc zero)) (l && r)) (let e : rd * 2 ≡ rd + rd = search arith in e)
  where
    by : (a b : Bool) → rd * 2 ≡ rd + rd → (if a then 1 + st + rd * 2 else 1) ≤ (if b then 1 + st + rd * 1 else 1) + (st + 2 * rd)
    by true true e = omega (arith, e)
    by true false e = omega (arith, e)
    by false true e = omega arith
    by false false e = omega arith
own_size st rd (suc (suc c)) call a l r = by call a (let e : rd * suc (suc (suc c)) ≡ rd * suc (suc c) + rd = search arith in e)
  where
    by : (call a : Bool) → rd * suc (suc (suc c)) ≡ rd * suc (suc c) + rd → (if a then 1 + st + rd * suc (suc (suc c)) else 1) ≤ (if (call || true) then 1 + st + rd * suc (suc c) else 1) + (st + 2 * rd)
    by true true e = omega (arith, e)
    by false true e = omega (arith, e)
    by true false e = omega arith
    by false false e = omega arith

own_bound : (x : Parts) (c : ℕ) (t1 : Times) (l1 r1 l r : Bool) → node_size (heavy_by (is_computed x) (is_call x.operator.op) t1 l1 r1) x (suc c) ≤ node_size (heavy_by (is_computed x) (is_call x.operator.op) (times_of c) l r) x c + use_size x
own_bound x c t1 l1 r1 l r = by (is_computed x) refl
  where
    by : (comp : Bool) → is_computed x ≡ comp → node_size (heavy_by comp (is_call x.operator.op) t1 l1 r1) x (suc c) ≤ node_size (heavy_by comp (is_call x.operator.op) (times_of c) l r) x c + use_size x
    by false e =
        let p : (if is_computed x then 1 else suc c) ≡ suc c = ap (λ b. if b then 1 else suc c) e in
        let q : (if is_computed x then 1 else c) ≡ c = ap (λ b. if b then 1 else c) e in
        let u : use_size x ≡ 1 = ap (λ b. if b then store_size x.operator.suffix + 2 * read_size x.operator.suffix else 1) e in
        omega (arith, p, q, u)
    by true e =
        let u : use_size x ≡ store_size x.operator.suffix + 2 * read_size x.operator.suffix = ap (λ b. if b then store_size x.operator.suffix + 2 * read_size x.operator.suffix else 1) e in
        let a = flat (is_call x.operator.op || is_needed t1 (l1 && r1)) (suc c) e in
        let b = flat (is_call x.operator.op || is_needed (times_of c) (l && r)) c e in
        let h = own_size (store_size x.operator.suffix) (read_size x.operator.suffix) c (is_call x.operator.op) (is_call x.operator.op || is_needed t1 (l1 && r1)) l r in
        omega (arith, u, a, b, h)
      where
        flat : (w : Bool) (c : ℕ) → is_computed x ≡ true → node_size w x c ≡ (if w then 1 + store_size x.operator.suffix + read_size x.operator.suffix * c else 1)
        flat true c e = refl
        flat false c e = ap (λ b. if b then 1 else c) e

-- a node that is light with one use more is light without it
own_light : (comp call : Bool) (c : ℕ) (l l1 r r1 : Bool) → (r ≡ true → r1 ≡ true) → (not (heavy_by comp call (times_of (suc c)) l r) && r) ≡ true → (not (heavy_by comp call (times_of c) l1 r1) && r1) ≡ true
own_light comp call c l l1 false r1 i h = absurd (never (not (heavy_by comp call (times_of (suc c)) l false)) h)
  where
    never : (b : Bool) → (b && false) ≡ true → ⊥
    never true e = true≢false (sym e)
    never false e = true≢false (sym e)
own_light comp call c l l1 true false i h = absurd (true≢false (sym (i refl)))
own_light false call c l l1 true true i h = refl
own_light true true c l l1 true true i h = absurd (true≢false (sym h))
own_light true false zero l l1 true true i h = refl
own_light true false (suc c) l l1 true true i h = absurd (true≢false (sym h))

module _ (zs : List Act) (u : Parts) (k b : ℕ) (uses : u.kids ≡ One k) (plain : ends_stretch (Acts u) ≡ false) where
  counts_one : (xs : List Act) (m : ℕ) → counts (xs ++ Acts u ∷ zs) m ≡ counts (xs ++ zs) m + hits m k
  counts_one [] m = let e : in_kids u.kids m ≡ hits m k = ap (λ q. in_kids q m) uses in omega (arith, e)
  counts_one (Made n x ∷ xs) m = let h = counts_one xs m in omega (arith, h)
  counts_one (Acts x ∷ xs) m = let h = counts_one xs m in omega (arith, h)

  counts_other : (xs : List Act) (m : ℕ) → (m ≡ k → ⊥) → counts (xs ++ Acts u ∷ zs) m ≡ counts (xs ++ zs) m
  counts_other xs m ne = let h = counts_one xs m in let z = miss m k ne in omega (arith, h, z)

  late_other : (xs : List Act) (m : ℕ) → (m ≡ k → ⊥) → late (xs ++ Acts u ∷ zs) m ≡ late (xs ++ zs) m
  late_other [] m ne = ap (λ q. if q then is_above (counts zs m) else late zs m) plain
  late_other (Made n x ∷ xs) m ne = λ i. if ends_stretch (Made n x) then is_above (counts_other xs m ne i) else late_other xs m ne i
  late_other (Acts x ∷ xs) m ne = λ i. if ends_stretch (Acts x) then is_above (counts_other xs m ne i) else late_other xs m ne i

  abbrev Budget : (ℕ → Bool) → ℕ
  Budget made = cond (made k) 0 b

  abbrev Costs : List Act → Type 0
  Costs xs = (made f g : ℕ → Bool) → AreOnce xs made → AreActs (λ n x. n ≡ k → use_size x ≤ b) (λ x. Unit {0}) xs → Implies f g → weight_of (xs ++ Acts u ∷ zs) f ≤ weight_of (xs ++ zs) g + (1 + Budget made)

  module _ (n : ℕ) (x : Parts) (xs : List Act) (rest : Costs xs) (made f g : ℕ → Bool) (once : AreOnce (Made n x ∷ xs) made) (are : AreActs (λ n x. n ≡ k → use_size x ≤ b) (λ x. Unit {0}) (Made n x ∷ xs)) (i : Implies f g) where
    abbrev Goal : Type 0
    Goal = weight_of (Made n x ∷ (xs ++ Acts u ∷ zs)) f ≤ weight_of (Made n x ∷ (xs ++ zs)) g + (1 + Budget made)

    own : n ≡ k → Goal
    own e =
        let one : hits n k ≡ 1 = hit n k e in
        let c = counts_one xs n in
        let more : counts (xs ++ Acts u ∷ zs) n ≡ suc (counts (xs ++ zs) n) = omega (arith, c, one) in
        let here : node_size (heavy_by (is_computed x) (is_call x.operator.op) (times_of (counts (xs ++ Acts u ∷ zs) n)) (late (xs ++ Acts u ∷ zs) n) (reads_by f x)) x (counts (xs ++ Acts u ∷ zs) n)
        ≤ node_size (heavy_by (is_computed x) (is_call x.operator.op) (times_of (counts (xs ++ zs) n)) (late (xs ++ zs) n) (reads_by g x)) x (counts (xs ++ zs) n) + use_size x =
        subst (λ q. node_size (heavy_by (is_computed x) (is_call x.operator.op) (times_of q) (late (xs ++ Acts u ∷ zs) n) (reads_by f x)) x q ≤ node_size (heavy_by (is_computed x) (is_call x.operator.op) (times_of (counts (xs ++ zs) n)) (late (xs ++ zs) n) (reads_by g x)) x (counts (xs ++ zs) n) + use_size x) (sym more)
        (own_bound x (counts (xs ++ zs) n) (times_of (suc (counts (xs ++ zs) n))) (late (xs ++ Acts u ∷ zs) n) (reads_by f x) (late (xs ++ zs) n) (reads_by g x)) in
        let light : (not (is_heavy (xs ++ Acts u ∷ zs) f n x) && reads_by f x) ≡ true → (not (is_heavy (xs ++ zs) g n x) && reads_by g x) ≡ true =
        λ h. own_light (is_computed x) (is_call x.operator.op) (counts (xs ++ zs) n) (late (xs ++ Acts u ∷ zs) n) (late (xs ++ zs) n) (reads_by f x) (reads_by g x) (reads_more x f g i)
        (sym (ap (λ q. not (heavy_by (is_computed x) (is_call x.operator.op) (times_of q) (late (xs ++ Acts u ∷ zs) n) (reads_by f x)) && reads_by f x) more) ∙ h) in
        let later = rest (at made n true) (at f n (not (is_heavy (xs ++ Acts u ∷ zs) f n x) && reads_by f x)) (at g n (not (is_heavy (xs ++ zs) g n x) && reads_by g x)) once.1 are.1 (at_more f g n (not (is_heavy (xs ++ Acts u ∷ zs) f n x) && reads_by f x) (not (is_heavy (xs ++ zs) g n x) && reads_by g x) i light) in
        let paid : Budget (at made n true) ≡ 0 = ap (λ q. cond q 0 b) (ap (at made n true) (sym e) ∙ at_new made n true) in
        let open_ : Budget made ≡ b = ap (λ q. cond q 0 b) (ap made (sym e) ∙ once.0) in
        let low = are.0 e in
        omega (arith, here, later, paid, open_, low)

    other : (n ≡ k → ⊥) → Goal
    other ne =
        let c = counts_other xs n ne in
        let l = late_other xs n ne in
        let heavy : is_heavy (xs ++ Acts u ∷ zs) f n x ≡ heavy_by (is_computed x) (is_call x.operator.op) (times_of (counts (xs ++ zs) n)) (late (xs ++ zs) n) (reads_by f x) = λ j. heavy_by (is_computed x) (is_call x.operator.op) (times_of (c j)) (l j) (reads_by f x) in
        let r = reads_more x f g i in
        let here : node_size (is_heavy (xs ++ Acts u ∷ zs) f n x) x (counts (xs ++ Acts u ∷ zs) n) ≤ node_size (is_heavy (xs ++ zs) g n x) x (counts (xs ++ zs) n) =
        subst (λ q. node_size (is_heavy (xs ++ Acts u ∷ zs) f n x) x q ≤ node_size (is_heavy (xs ++ zs) g n x) x (counts (xs ++ zs) n)) (sym c)
        (subst (λ q. node_size q x (counts (xs ++ zs) n) ≤ node_size (is_heavy (xs ++ zs) g n x) x (counts (xs ++ zs) n)) (sym heavy)
        (size_more x (heavy_by (is_computed x) (is_call x.operator.op) (times_of (counts (xs ++ zs) n)) (late (xs ++ zs) n) (reads_by f x)) (is_heavy (xs ++ zs) g n x) (counts (xs ++ zs) n)
        (heavy_more (is_computed x) (is_call x.operator.op) (times_of (counts (xs ++ zs) n)) (late (xs ++ zs) n) (reads_by f x) (reads_by g x) r)
        (heavy_computed (is_computed x) (is_call x.operator.op) (times_of (counts (xs ++ zs) n)) (late (xs ++ zs) n) (reads_by g x)))) in
        let light : (not (is_heavy (xs ++ Acts u ∷ zs) f n x) && reads_by f x) ≡ true → (not (is_heavy (xs ++ zs) g n x) && reads_by g x) ≡ true =
        λ h. light_more (is_computed x) (is_call x.operator.op) (times_of (counts (xs ++ zs) n)) (late (xs ++ zs) n) (reads_by f x) (reads_by g x) r (sym (ap (λ q. not q && reads_by f x) heavy) ∙ h) in
        let later = rest (at made n true) (at f n (not (is_heavy (xs ++ Acts u ∷ zs) f n x) && reads_by f x)) (at g n (not (is_heavy (xs ++ zs) g n x) && reads_by g x)) once.1 are.1 (at_more f g n (not (is_heavy (xs ++ Acts u ∷ zs) f n x) && reads_by f x) (not (is_heavy (xs ++ zs) g n x) && reads_by g x) i light) in
        let same : Budget (at made n true) ≡ Budget made = ap (λ q. cond q 0 b) (at_old made n true k (λ e. ne (sym e))) in
        omega (arith, here, later, same)

  made_costs : (n : ℕ) (x : Parts) (xs : List Act) → Costs xs → Costs (Made n x ∷ xs)
  made_costs n x xs rest made f g once are i = ⊎_elim (own n x xs rest made f g once are i) (other n x xs rest made f g once are i) (cases_eq n k)

  pub costs : (xs : List Act) → Costs xs
  costs [] = λ made f g once are i. (let later = less_reads zs f g i in omega (arith, later))
  costs (Made n x ∷ xs) = made_costs n x xs (costs xs)
  costs (Acts x ∷ xs) = λ made f g once are i. (let later = costs xs made f g once are.1 i in omega (arith, later))

pub use_has_bound : (xs zs : List Act) (u : Parts) (k b : ℕ) → AreOnce xs (λ m. false) → AreActs (λ n x. n ≡ k → use_size x ≤ b) (λ x. Unit {0}) xs → u.kids ≡ One k → ends_stretch (Acts u) ≡ false → weight_of (xs ++ Acts u ∷ zs) (λ m. false) ≤ weight_of (xs ++ zs) (λ m. false) + (1 + b)
use_has_bound xs zs u k b once are uses plain = costs zs u k b uses plain xs (λ m. false) (λ m. false) (λ m. false) once are (λ m e. e)
