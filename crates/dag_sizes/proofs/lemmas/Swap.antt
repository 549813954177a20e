-- What a new node costs in place of uses of its operands that are to come.
use Rattle.std.proofs.Common.{◌≡◌, ⊎_elim, ℕ, zero, suc, ◌+◌, ◌*◌, ◌≤◌, Bool, true, false, true≢false, List, [], ◌∷◌, ◌++◌, inl, inr, refl, sym, ap, ◌∙◌, subst, arith}
use Rattle.std.specs.Prelude.{◌⊎◌, ◌&&◌, ◌||◌, not, if◌then◌else◌}
use Rattle.std.proofs.lemmas.Bool.{cases_eq}
use Rattle.op_forest.specs.declared.suffix.Suffix.{Suffix}
use Rattle.op_forest.specs.declared.suffix.Suffix.TheVariants.{C, S, I, U, P, B, V}
use Rattle.dag_forest.specs.declared.act.Act.{Act}
use Rattle.dag_forest.specs.declared.act.Act.TheVariants.{Made, Acts}
use Rattle.dag_forest.specs.declared.kids.Kids.{Kids}
use Rattle.dag_forest.specs.declared.kids.Kids.TheVariants.{Zero, One, Two}
use Rattle.dag_forest.specs.declared.parts.Parts.{Parts}
use Rattle.dag_forest.specs.Choice.{in_kids, counts, times_of, is_above, late, ends_stretch, is_computed, reads_by, kids_read}
use Rattle.dag_forest.specs.Emission.{AreOnce}
use Rattle.dag_forest.specs.Entries.{is_call, is_read}
use Rattle.dag_forest.specs.Schedules.{at}
use Rattle.dag_seam.specs.Rooms.{AreActs}
use Rattle.dag_forest.proofs.lemmas.Maps.{at_new, at_old, unmade, unmade_other}
use Rattle.dag_seam.proofs.lemmas.Within.{or_true}
use Rattle.dag_sizes.specs.Sizes.{store_size, read_size, node_size}
use Rattle.dag_sizes.specs.Weights.{AreRoots, IsSwap, extra_size, is_heavy, new_size, root_count, weight_of}
use Rattle.dag_sizes.proofs.lemmas.OneUse.{heavy_by}
use Rattle.dag_sizes.proofs.lemmas.Uses.{hit, miss, sum_kids, kids_at}
use Rattle.dag_sizes.proofs.lemmas.Weighing.{node_uses, node_uses_few, plain_reads}

roots_weight : (zs : List Act) (f : ℕ → Bool) → AreRoots zs → weight_of zs f ≡ root_count zs
roots_weight [] f h = refl
roots_weight (Made n x ∷ zs) f h = absurd h
roots_weight (Acts x ∷ zs) f h = let e = roots_weight zs f h in omega (arith, e)

roots_append : (us zs : List Act) → AreRoots us → AreRoots zs → AreRoots (us ++ zs)
roots_append [] zs h g = g
roots_append (Made n x ∷ us) zs h g = absurd h
roots_append (Acts x ∷ us) zs h g = roots_append us zs h g

counts_append : (xs ys : List Act) (m : ℕ) → counts (xs ++ ys) m ≡ counts xs m + counts ys m
counts_append [] ys m = omega arith
counts_append (Made n x ∷ xs) ys m = let e = counts_append xs ys m in omega (arith, e)
counts_append (Acts x ∷ xs) ys m = let e = counts_append xs ys m in omega (arith, e)

above_is : (c : ℕ) → is_above c ≡ true → 1 ≤ c
above_is zero h = absurd (true≢false (sym h))
above_is (suc c) h = omega arith

above_of : (c : ℕ) → 1 ≤ c → is_above c ≡ true
above_of zero h = absurd (omega (arith, h))
above_of (suc c) h = refl

above_not : (c : ℕ) → is_above c ≡ false → c ≡ 0
above_not zero h = refl
above_not (suc c) h = absurd (true≢false h)

if_true : (b : Bool) (a l : Bool) → a ≡ true → l ≡ true → (if b then a else l) ≡ true
if_true true a l h g = h
if_true false a l h g = g

-- ---- one node that is used as often in both

-- what its cost falls by where it isn't late any more
abbrev fall : Bool → Bool → ℕ → ℕ
fall true b k = 0
fall false true k = k
fall false false k = 0

extra_is : (s : Suffix) → (1 + store_size s + read_size s ≤ extra_size s + 5) × (5 ≤ store_size s + read_size s) × (1 ≤ extra_size s)
extra_is C = (omega arith, omega arith, omega arith)
extra_is S = (omega arith, omega arith, omega arith)
extra_is I = (omega arith, omega arith, omega arith)
extra_is U = (omega arith, omega arith, omega arith)
extra_is P = (omega arith, omega arith, omega arith)
extra_is B = (omega arith, omega arith, omega arith)
extra_is V = (omega arith, omega arith, omega arith)

-- heavy where it is late, and light where it isn't: it is used once
fell_once : (comp call r : Bool) (c : ℕ) (l l1 : Bool) → (l ≡ true → l1 ≡ true) → heavy_by comp call (times_of c) l r ≡ false → heavy_by comp call (times_of c) l1 r ≡ true → (comp ≡ true) × (c ≡ 1) × (l ≡ false) × (l1 ≡ true)
fell_once false call r c l l1 i a b = absurd (true≢false (sym b))
fell_once true true r c l l1 i a b = absurd (true≢false a)
fell_once true false r zero l l1 i a b = absurd (true≢false (sym b))
fell_once true false r (suc (suc c)) l l1 i a b = absurd (true≢false a)
fell_once true false r (suc zero) true l1 i a b = absurd (true≢false (sym b ∙ ap (λ z. z && r) (i refl) ∙ a))
fell_once true false r (suc zero) false false i a b = absurd (true≢false (sym b))
fell_once true false r (suc zero) false true i a b = (refl, refl, refl, refl)

late_more : (comp call r : Bool) (c : ℕ) (l l1 : Bool) → (l ≡ true → l1 ≡ true) → heavy_by comp call (times_of c) l r ≡ true → heavy_by comp call (times_of c) l1 r ≡ true
late_more false call r c l l1 i h = h
late_more true true r c l l1 i h = refl
late_more true false r zero l l1 i h = h
late_more true false r (suc (suc c)) l l1 i h = refl
late_more true false r (suc zero) true l1 i h = ap (λ z. z && r) (i refl) ∙ h
late_more true false r (suc zero) false l1 i h = absurd (true≢false (sym h))

-- what is used behind its stretch doesn't read any more
late_light : (comp call r : Bool) (c : ℕ) (l : Bool) → l ≡ true → 1 ≤ c → (comp ≡ false → r ≡ false) → (not (heavy_by comp call (times_of c) l r) && r) ≡ false
late_light false call r c l e u p = p refl
late_light true true r c l e u p = refl
late_light true false r zero l e u p = absurd (omega (arith, u))
late_light true false r (suc (suc c)) l e u p = refl
late_light true false true (suc zero) l e u p = ap (λ z. not (z && true) && true) e
late_light true false false (suc zero) l e u p = never (not (l && false))
  where
    never : (b : Bool) → (b && false) ≡ false
    never true = refl
    never false = refl

same_reads : (k : Kids) (f g : ℕ → Bool) (c : ℕ → ℕ) → ((m : ℕ) → f m ≡ true → g m ≡ false → in_kids k m + c m ≡ 0) → ((m : ℕ) → g m ≡ true → f m ≡ true) → kids_read f k ≡ kids_read g k
same_reads k f g c apart_ less = by k (λ m l. one m (f m) (g m) refl refl l)
  where
    one : (m : ℕ) (a b : Bool) → f m ≡ a → g m ≡ b → (1 ≤ in_kids k m) → f m ≡ g m
    one m true true d e l = d ∙ sym e
    one m false false d e l = d ∙ sym e
    one m true false d e l = absurd (let z = apart_ m d e in omega (arith, z, l))
    one m false true d e l = absurd (true≢false (sym (less m e) ∙ d))

    by : (q : Kids) → ((m : ℕ) → 1 ≤ in_kids q m → f m ≡ g m) → kids_read f q ≡ kids_read g q
    by Zero h = refl
    by (One a) h = h a (let e = hit a a refl in omega (arith, e))
    by (Two a b) h = λ i. h a (let e = hit a a refl in omega (arith, e)) i || h b (let e = hit b b refl in omega (arith, e)) i

node_plain : (y : Parts) (c : ℕ) → is_computed y ≡ true → node_size false y c ≡ 1
node_plain y c e = ap (λ b. if b then 1 else c) e

swap_size : (a b : Bool) (y : Parts) (c i : ℕ) → (a ≡ true → b ≡ true) → (b ≡ true → is_computed y ≡ true) → (a ≡ false → b ≡ true → (c ≡ 1) × (i ≤ 1)) → node_size a y c + i * fall a b (store_size y.operator.suffix + read_size y.operator.suffix) ≤ node_size b y c
swap_size true true y c i more comp one = let z : i * 0 ≡ 0 = search arith in omega (arith, z)
swap_size true false y c i more comp one = absurd (true≢false (sym (more refl)))
swap_size false false y c i more comp one = let z : i * 0 ≡ 0 = search arith in omega (arith, z)
swap_size false true y c i more comp one =
    let p = node_plain y c (comp refl) in
    let o = one refl refl in
    let q : read_size y.operator.suffix * c ≡ read_size y.operator.suffix * 1 = ap (λ z. read_size y.operator.suffix * z) o.0 in
    let r : read_size y.operator.suffix * 1 ≡ read_size y.operator.suffix = search arith in
    let few = product i (store_size y.operator.suffix + read_size y.operator.suffix) o.1 in
    omega (arith, p, q, r, few)
  where
    product : (i k : ℕ) → i ≤ 1 → i * k ≤ k
    product zero k l = let z : 0 * k ≡ 0 = search arith in omega (arith, z)
    product (suc zero) k l = let z : 1 * k ≡ k = search arith in omega (arith, z)
    product (suc (suc i)) k l = absurd (omega (arith, l))

heavy_computed : (comp call : Bool) (c : ℕ) (l r : Bool) → heavy_by comp call (times_of c) l r ≡ true → comp ≡ true
heavy_computed true call c l r h = refl
heavy_computed false call c l r h = h

heavy_reads : (comp call : Bool) (c : ℕ) (l r : Bool) → call ≡ false → c ≡ 1 → heavy_by comp call (times_of c) l r ≡ true → r ≡ true
heavy_reads false call c l r k o h = absurd (true≢false (sym h))
heavy_reads true true c l r k o h = absurd (true≢false k)
heavy_reads true false zero l r k o h = absurd (true≢false (sym h))
heavy_reads true false (suc (suc c)) l r k o h = absurd (omega (arith, o))
heavy_reads true false (suc zero) true r k o h = h
heavy_reads true false (suc zero) false r k o h = absurd (true≢false (sym h))

-- an operand that reads has its due
kid_due : (k : Kids) (f : ℕ → Bool) (due : ℕ → ℕ) → ((m : ℕ) → 1 ≤ in_kids k m → f m ≡ true → 5 ≤ due m) → kids_read f k ≡ true → 5 ≤ sum_kids k due
kid_due Zero f due paid h = absurd (true≢false (sym h))
kid_due (One a) f due paid h = paid a (let e = hit a a refl in omega (arith, e)) h
kid_due (Two a b) f due paid h = ⊎_elim
    (λ e. let l = paid a (let q = hit a a refl in omega (arith, q)) e in omega (arith, l))
    (λ e. let l = paid b (let q = hit b b refl in omega (arith, q)) e in omega (arith, l))
    (or_true (f a) (f b) h)

new_bound : (x : Parts) (hv : Bool) (s : ℕ) → (hv ≡ true → (is_read x.operator.op ≡ true) ⊎ (5 ≤ s)) → node_size hv x 1 ≤ new_size x + s
new_bound x false s h = by (is_computed x) (is_read x.operator.op)
  where
    by : (c r : Bool) → (if c then 1 else 1) ≤ (if r then 1 + store_size x.operator.suffix + read_size x.operator.suffix else extra_size x.operator.suffix) + s
    by true true = omega arith
    by false true = omega arith
    by true false = let l = (extra_is x.operator.suffix).2 in omega (arith, l)
    by false false = let l = (extra_is x.operator.suffix).2 in omega (arith, l)
new_bound x true s h = by (is_read x.operator.op) (h refl) (let q : read_size x.operator.suffix * 1 ≡ read_size x.operator.suffix = search arith in q)
  where
    by : (r : Bool) → (r ≡ true) ⊎ (5 ≤ s) → read_size x.operator.suffix * 1 ≡ read_size x.operator.suffix → 1 + store_size x.operator.suffix + read_size x.operator.suffix * 1 ≤ (if r then 1 + store_size x.operator.suffix + read_size x.operator.suffix else extra_size x.operator.suffix) + s
    by true h q = omega (arith, q)
    by false (inl e) q = absurd (true≢false (sym e))
    by false (inr l) q = let e = (extra_is x.operator.suffix).0 in omega (arith, q, l, e)

-- ---- the acts

module _ (x : Parts) (n : ℕ) (later sooner rest : List Act) (sw : IsSwap x n later sooner rest) where
  bare_end : (m : ℕ) → in_kids sw.end.kids m ≡ 0
  bare_end m = ap (λ k. in_kids k m) sw.bare

  use_other : (m : ℕ) → (m ≡ n → ⊥) → in_kids sw.use_.kids m ≡ 0
  use_other m ne = ap (λ k. in_kids k m) sw.used ∙ miss m n ne

  tail_later : (m : ℕ) → (m ≡ n → ⊥) → counts later m ≡ in_kids x.kids m + counts rest m
  tail_later m ne =
      let e : counts later m ≡ in_kids x.kids m + (in_kids sw.end.kids m + (in_kids sw.use_.kids m + counts rest m)) = ap (λ z. counts z m) sw.later_is in
      let a = bare_end m in let b = use_other m ne in omega (arith, e, a, b)

  uses_count : (m : ℕ) → counts (sw.uses ++ rest) m ≡ in_kids x.kids m + counts rest m
  uses_count m = let e = counts_append sw.uses rest m in let o = sw.operands m in omega (arith, e, o)

  tail_sooner : (m : ℕ) → counts sooner m ≡ in_kids x.kids m + counts rest m
  tail_sooner m =
      let e : counts sooner m ≡ in_kids sw.end.kids m + counts (sw.uses ++ rest) m = ap (λ z. counts z m) sw.sooner_is in
      let a = bare_end m in let b = uses_count m in omega (arith, e, a, b)

  counts_same : (xs : List Act) (m : ℕ) → (m ≡ n → ⊥) → counts (xs ++ later) m ≡ counts (xs ++ sooner) m
  counts_same xs m ne =
      let a = counts_append xs later m in let b = counts_append xs sooner m in
      let c = tail_later m ne in let d = tail_sooner m in omega (arith, a, b, c, d)

  late_later : (m : ℕ) → late later m ≡ is_above (in_kids sw.use_.kids m + counts rest m)
  late_later m =
      ap (λ z. late z m) sw.later_is
      ∙ ap (λ b. if b then is_above (in_kids sw.end.kids m + (in_kids sw.use_.kids m + counts rest m)) else late (Acts sw.end ∷ Acts sw.use_ ∷ rest) m) sw.plain
      ∙ ap (λ b. if b then is_above (in_kids sw.use_.kids m + counts rest m) else late (Acts sw.use_ ∷ rest) m) sw.ends

  late_sooner : (m : ℕ) → late sooner m ≡ is_above (counts (sw.uses ++ rest) m)
  late_sooner m =
      ap (λ z. late z m) sw.sooner_is
      ∙ ap (λ b. if b then is_above (counts (sw.uses ++ rest) m) else late (sw.uses ++ rest) m) sw.ends

  lates_by : (e : Bool) (ca cb : ℕ) (la lb : Bool) → ca ≡ cb → (la ≡ true → lb ≡ true) → (if e then is_above ca else la) ≡ true → (if e then is_above cb else lb) ≡ true
  lates_by true ca cb la lb c f h = sym (ap is_above c) ∙ h
  lates_by false ca cb la lb c f h = f h

  lates : (xs : List Act) (m : ℕ) → (m ≡ n → ⊥) → late (xs ++ later) m ≡ true → late (xs ++ sooner) m ≡ true
  lates [] m ne h =
      let l = above_is (in_kids sw.use_.kids m + counts rest m) (sym (late_later m) ∙ h) in
      let a = use_other m ne in let b = uses_count m in
      late_sooner m ∙ above_of (counts (sw.uses ++ rest) m) (omega (arith, l, a, b))
  lates (Made p y ∷ xs) m ne h = lates_by (ends_stretch (Made p y)) (counts (xs ++ later) m) (counts (xs ++ sooner) m) (late (xs ++ later) m) (late (xs ++ sooner) m) (counts_same xs m ne) (lates xs m ne) h
  lates (Acts y ∷ xs) m ne h = lates_by (ends_stretch (Acts y)) (counts (xs ++ later) m) (counts (xs ++ sooner) m) (late (xs ++ later) m) (late (xs ++ sooner) m) (counts_same xs m ne) (lates xs m ne) h

  fallen_by : (e : Bool) (ca cb : ℕ) (la lb : Bool) (Then : Type 0) → ca ≡ cb → (la ≡ false → lb ≡ true → Then) → (if e then is_above ca else la) ≡ false → (if e then is_above cb else lb) ≡ true → Then
  fallen_by true ca cb la lb then_ c f h g = absurd (true≢false (sym g ∙ sym (ap is_above c) ∙ h))
  fallen_by false ca cb la lb then_ c f h g = f h g

  fallen : (xs : List Act) (m : ℕ) → (m ≡ n → ⊥) → late (xs ++ later) m ≡ false → late (xs ++ sooner) m ≡ true → 1 ≤ counts sooner m
  fallen [] m ne h g = let l = above_is (counts (sw.uses ++ rest) m) (sym (late_sooner m) ∙ g) in let a = uses_count m in let b = tail_sooner m in omega (arith, l, a, b)
  fallen (Made p y ∷ xs) m ne h g = fallen_by (ends_stretch (Made p y)) (counts (xs ++ later) m) (counts (xs ++ sooner) m) (late (xs ++ later) m) (late (xs ++ sooner) m) (1 ≤ counts sooner m) (counts_same xs m ne) (fallen xs m ne) h g
  fallen (Acts y ∷ xs) m ne h g = fallen_by (ends_stretch (Acts y)) (counts (xs ++ later) m) (counts (xs ++ sooner) m) (late (xs ++ later) m) (late (xs ++ sooner) m) (1 ≤ counts sooner m) (counts_same xs m ne) (fallen xs m ne) h g

  enough : (xs : List Act) (m : ℕ) → 1 ≤ in_kids x.kids m → 1 ≤ counts (xs ++ sooner) m
  enough xs m l = let a = counts_append xs sooner m in let b = tail_sooner m in omega (arith, l, a, b)

  late_used : (xs : List Act) (m : ℕ) → 1 ≤ in_kids x.kids m → late (xs ++ sooner) m ≡ true
  late_used [] m l = let a = uses_count m in late_sooner m ∙ above_of (counts (sw.uses ++ rest) m) (omega (arith, l, a))
  late_used (Made p y ∷ xs) m l = if_true (ends_stretch (Made p y)) (is_above (counts (xs ++ sooner) m)) (late (xs ++ sooner) m) (above_of (counts (xs ++ sooner) m) (enough xs m l)) (late_used xs m l)
  late_used (Acts y ∷ xs) m l = if_true (ends_stretch (Acts y)) (is_above (counts (xs ++ sooner) m)) (late (xs ++ sooner) m) (above_of (counts (xs ++ sooner) m) (enough xs m l)) (late_used xs m l)

  abbrev Costs : List Act → Type 0
  Costs xs = (made f g : ℕ → Bool) (due : ℕ → ℕ) → AreOnce xs made → AreActs (λ m y. m ≡ n → ⊥) (λ y. Unit {0}) xs
      → ((m : ℕ) → f m ≡ true → g m ≡ false → (5 ≤ due m) × (node_uses xs m ≡ 0)) → ((m : ℕ) → g m ≡ true → f m ≡ true) → ((m : ℕ) → 1 ≤ in_kids x.kids m → g m ≡ false) → ((m : ℕ) → made m ≡ false → due m ≡ 0)
      → weight_of (xs ++ later) f + root_count sooner ≤ ((weight_of (xs ++ sooner) g + root_count later) + new_size x) + sum_kids x.kids due

  none_costs : Costs []
  none_costs made f g due once are paid less used none =
      let T : List Act = Acts sw.end ∷ Acts sw.use_ ∷ rest in
      let hv : Bool = is_heavy T f n x in
      let later_w : weight_of later f ≡ node_size hv x (counts T n) + (1 + (1 + weight_of rest (at f n (not hv && reads_by f x)))) = ap (λ z. weight_of z f) sw.later_is in
      let rest_w = roots_weight rest (at f n (not hv && reads_by f x)) sw.more in
      let later_r : root_count later ≡ suc (suc (root_count rest)) = ap root_count sw.later_is in
      let sooner_w : weight_of sooner g ≡ root_count sooner = roots_weight sooner g (subst AreRoots (sym sw.sooner_is) (roots_append sw.uses rest sw.roots sw.more)) in
      let a = bare_end n in
      let b : in_kids sw.use_.kids n ≡ 1 = ap (λ k. in_kids k n) sw.used ∙ hit n n refl in
      let c = sw.fresh in
      let one : counts T n ≡ 1 = omega (arith, a, b, c) in
      let size : node_size hv x (counts T n) ≡ node_size hv x 1 = ap (node_size hv x) one in
      let bound = new_bound x hv (sum_kids x.kids due) (λ h. reads (heavy_reads (is_computed x) (is_call x.operator.op) (counts T n) (late T n) (reads_by f x) sw.plain one h)) in
      omega (arith, later_w, rest_w, later_r, sooner_w, size, bound)
    where
      reads : reads_by f x ≡ true → (is_read x.operator.op ≡ true) ⊎ (5 ≤ sum_kids x.kids due)
      reads h = ⊎_elim
          (λ e. inl e)
          (λ e. ⊎_elim
          (λ q. absurd (true≢false (sym q ∙ sw.plain)))
          (λ q. inr (kid_due x.kids f due (λ m l is. (paid m is (used m l)).0) q))
          (or_true (is_call x.operator.op) (kids_read f x.kids) e))
          (or_true (is_read x.operator.op) (is_call x.operator.op || kids_read f x.kids) h)

  module _ (p : ℕ) (y : Parts) (xs : List Act) (rest_costs : Costs xs) (made f g : ℕ → Bool) (due : ℕ → ℕ) (fresh : made p ≡ false) (once : AreOnce xs (at made p true)) (ne : p ≡ n → ⊥) (are : AreActs (λ m y. m ≡ n → ⊥) (λ y. Unit {0}) xs)
      (paid : (m : ℕ) → f m ≡ true → g m ≡ false → (5 ≤ due m) × (in_kids y.kids m + node_uses xs m ≡ 0)) (less : (m : ℕ) → g m ≡ true → f m ≡ true) (used : (m : ℕ) → 1 ≤ in_kids x.kids m → g m ≡ false) (none : (m : ℕ) → made m ≡ false → due m ≡ 0) where
    abbrev comp : Bool
    comp = is_computed y

    abbrev call : Bool
    call = is_call y.operator.op

    abbrev c : ℕ
    c = counts (xs ++ sooner) p

    abbrev ra : Bool
    ra = reads_by f y

    abbrev rb : Bool
    rb = reads_by g y

    abbrev ha : Bool
    ha = is_heavy (xs ++ later) f p y

    abbrev hb : Bool
    hb = is_heavy (xs ++ sooner) g p y

    -- the first one, as the second tells of it
    abbrev hc : Bool
    hc = heavy_by comp call (times_of c) (late (xs ++ later) p) rb

    reads_same : ra ≡ rb
    reads_same = λ i. is_read y.operator.op || (is_call y.operator.op || same_reads y.kids f g (node_uses xs) (λ m a b. (paid m a b).1) less i)

    same : counts (xs ++ later) p ≡ c
    same = counts_same xs p ne

    heavy_same : ha ≡ hc
    heavy_same = λ i. heavy_by comp call (times_of (same i)) (late (xs ++ later) p) (reads_same i)

    abbrev d : ℕ
    d = fall hc hb (store_size y.operator.suffix + read_size y.operator.suffix)

    more : hc ≡ true → hb ≡ true
    more h = late_more comp call rb c (late (xs ++ later) p) (late (xs ++ sooner) p) (lates xs p ne) h

    fell : hc ≡ false → hb ≡ true → (c ≡ 1) × (in_kids x.kids p ≤ 1) × (node_uses xs p ≡ 0)
    fell a b =
        let o = fell_once comp call rb c (late (xs ++ later) p) (late (xs ++ sooner) p) (lates xs p ne) a b in
        let l = fallen xs p ne o.2 o.3 in
        let e = counts_append xs sooner p in
        let t = tail_sooner p in
        let u = node_uses_few xs p in
        let one = o.1 in
        (one, omega (arith, one, l, e, t), omega (arith, one, l, e, u))

    not_split : (a b : Bool) → (not a && b) ≡ true → (a ≡ false) × (b ≡ true)
    not_split true b h = absurd (true≢false (sym h))
    not_split false b h = (refl, h)

    not_joined : (a b : Bool) → (not a && b) ≡ false → b ≡ true → a ≡ true
    not_joined true b h e = refl
    not_joined false b h e = absurd (true≢false (sym e ∙ h))

    own_paid : (not ha && ra) ≡ true → (not hb && rb) ≡ false → (5 ≤ d) × (node_uses xs p ≡ 0)
    own_paid a b =
        let s = not_split ha ra a in
        let hcf : hc ≡ false = sym heavy_same ∙ s.0 in
        let hbt : hb ≡ true = not_joined hb rb b (sym reads_same ∙ s.1) in
        let q : d ≡ store_size y.operator.suffix + read_size y.operator.suffix = λ i. fall (hcf i) (hbt i) (store_size y.operator.suffix + read_size y.operator.suffix) in
        let l = (extra_is y.operator.suffix).1 in
        ((let k : 5 ≤ d = omega (arith, q, l) in k), (fell hcf hbt).2)

    not_heavy : (b : Bool) → (b ≡ true → ⊥) → b ≡ false
    not_heavy true h = absurd (h refl)
    not_heavy false h = refl

    own_less : (not hb && rb) ≡ true → (not ha && ra) ≡ true
    own_less b =
        let s = not_split hb rb b in
        let hcf : hc ≡ false = not_heavy hc (λ e. true≢false (sym (more e) ∙ s.0)) in
        λ i. not ((heavy_same ∙ hcf) i) && (reads_same ∙ s.1) i

    own_used : 1 ≤ in_kids x.kids p → (not hb && rb) ≡ false
    own_used l = late_light comp call rb c (late (xs ++ sooner) p) (late_used xs p l) (enough xs p l) (plain_reads y g)

    size : node_size ha y (counts (xs ++ later) p) + in_kids x.kids p * d ≤ node_size hb y c
    size =
        let e : node_size ha y (counts (xs ++ later) p) ≡ node_size hc y c = λ i. node_size (heavy_same i) y (same i) in
        let s = swap_size hc hb y c (in_kids x.kids p) more (heavy_computed comp call c (late (xs ++ sooner) p) rb) (λ a b. let q = fell a b in (q.0, q.1)) in
        omega (arith, e, s)

    by_number : (Holds : ℕ → Type 0) (m : ℕ) → Holds p → ((m ≡ p → ⊥) → Holds m) → Holds m
    by_number holds m own other = ⊎_elim (λ e. subst holds (sym e) own) (λ q. other q) (cases_eq m p)

    abbrev fa : ℕ → Bool
    fa = at f p (not ha && ra)

    abbrev gb : ℕ → Bool
    gb = at g p (not hb && rb)

    made_costs : weight_of (Made p y ∷ (xs ++ later)) f + root_count sooner ≤ ((weight_of (Made p y ∷ (xs ++ sooner)) g + root_count later) + new_size x) + sum_kids x.kids due
    made_costs =
        let h = rest_costs (at made p true) fa gb (at due p d) once are
        (λ m. by_number (λ k. fa k ≡ true → gb k ≡ false → (5 ≤ at due p d k) × (node_uses xs k ≡ 0)) m
        (λ a b. subst (λ z. (5 ≤ z) × (node_uses xs p ≡ 0)) (sym (at_new due p d)) (own_paid (sym (at_new f p (not ha && ra)) ∙ a) (sym (at_new g p (not hb && rb)) ∙ b)))
        (λ q a b. let k = paid m (sym (at_old f p (not ha && ra) m q) ∙ a) (sym (at_old g p (not hb && rb) m q) ∙ b) in let z = k.1 in (subst (λ z. 5 ≤ z) (sym (at_old due p d m q)) k.0, (let w : node_uses xs m ≡ 0 = omega (arith, z) in w))))
        (λ m. by_number (λ k. gb k ≡ true → fa k ≡ true) m
        (λ a. at_new f p (not ha && ra) ∙ own_less (sym (at_new g p (not hb && rb)) ∙ a))
        (λ q a. at_old f p (not ha && ra) m q ∙ less m (sym (at_old g p (not hb && rb) m q) ∙ a)))
        (λ m. by_number (λ k. 1 ≤ in_kids x.kids k → gb k ≡ false) m
        (λ l. at_new g p (not hb && rb) ∙ own_used l)
        (λ q l. at_old g p (not hb && rb) m q ∙ used m l))
        (λ m un. at_old due p d m (unmade_other made p m un) ∙ none m (unmade made p m un)) in
        let k = kids_at x.kids due p d (none p fresh) in
        let s = size in
        omega (arith, h, k, s)

  costs : (xs : List Act) → Costs xs
  costs [] = none_costs
  costs (Made p y ∷ xs) = λ made f g due once are paid less used none. made_costs p y xs (costs xs) made f g due once.0 once.1 are.0 are.1 paid less used none
  costs (Acts y ∷ xs) = λ made f g due once are paid less used none. (let h = costs xs made f g due once are.1 paid less used none in omega (arith, h))

  pub swap_costs : (xs : List Act) → AreOnce xs (λ m. false) → AreActs (λ m y. m ≡ n → ⊥) (λ y. Unit {0}) xs → weight_of (xs ++ later) (λ m. false) + root_count sooner ≤ (weight_of (xs ++ sooner) (λ m. false) + root_count later) + new_size x
  swap_costs xs once are =
      let h = costs xs (λ m. false) (λ m. false) (λ m. false) (λ m. 0) once are (λ m a b. absurd (true≢false (sym a))) (λ m a. absurd (true≢false (sym a))) (λ m l. refl) (λ m e. refl) in
      let z = none_due x.kids in
      omega (arith, h, z)
    where
      none_due : (k : Kids) → sum_kids k (λ m. 0) ≡ 0
      none_due Zero = refl
      none_due (One a) = refl
      none_due (Two a b) = omega arith

pub swap_has_bound : (xs later sooner rest : List Act) (x : Parts) (n : ℕ) → AreOnce xs (λ m. false) → AreActs (λ m y. m ≡ n → ⊥) (λ y. Unit {0}) xs → IsSwap x n later sooner rest → weight_of (xs ++ later) (λ m. false) + root_count sooner ≤ (weight_of (xs ++ sooner) (λ m. false) + root_count later) + new_size x
swap_has_bound xs later sooner rest x n once are sw = swap_costs x n later sooner rest sw xs once are
