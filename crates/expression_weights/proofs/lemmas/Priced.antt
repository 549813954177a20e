-- That a price bounds a weight; and what one use more of a node costs at most.
use Rattle.std.proofs.Common.{◌≡◌, ⊎_elim, ℕ, zero, suc, ◌+◌, ◌*◌, ◌≤◌, Bool, true, false, true≢false, List, [], ◌∷◌, ◌++◌, inl, inr, refl, sym, ap, ◌∙◌, subst, arith}
use Rattle.std.specs.Prelude.{◌⊎◌, ◌&&◌, ◌||◌, not, if◌then◌else◌}
use Rattle.std.proofs.lemmas.Bool.{cases_eq}
use Rattle.op_forest.specs.declared.suffix.Suffix.{Suffix}
use Rattle.dag_forest.specs.declared.act.Act.{Act}
use Rattle.dag_forest.specs.declared.act.Act.TheVariants.{Made, Acts}
use Rattle.dag_forest.specs.declared.kids.Kids.{Kids}
use Rattle.dag_forest.specs.declared.kids.Kids.TheVariants.{Zero, One, Two}
use Rattle.dag_forest.specs.declared.parts.Parts.{Parts}
use Rattle.dag_forest.specs.Choice.{hits, in_kids, counts, times_of, late, ends_stretch, is_above, is_computed, is_needed, reads_by}
use Rattle.dag_forest.specs.Emission.{AreOnce}
use Rattle.dag_forest.specs.Entries.{is_call}
use Rattle.dag_forest.specs.Schedules.{at}
use Rattle.dag_forest.proofs.lemmas.Maps.{at_new, at_old, unmade, unmade_other}
use Rattle.dag_seam.specs.Rooms.{AreActs}
use Rattle.dag_seam.proofs.lemmas.Acts.{IsAny}
use Rattle.dag_sizes.specs.Sizes.{store_size, read_size, node_size}
use Rattle.dag_sizes.specs.Weights.{is_heavy, weight_of}
use Rattle.dag_sizes.proofs.lemmas.Uses.{hit, miss}
use Rattle.dag_sizes.proofs.lemmas.Weighing.{sizes_of, grows}
use Rattle.expression_weights.specs.Prices.{price, priced, has_end, MayBeLight, AreLight}

-- ---- a price bounds a weight

no_use : ℕ → ℕ
no_use m = 0

-- one that is used once at most, and not late, isn't heavy
light_size : (comp call l r : Bool) (c : ℕ) → call ≡ false → c ≤ 1 → l ≡ false → (comp && (call || is_needed (times_of c) (l && r))) ≡ false
light_size false call l r c p f e = refl
light_size true call l r zero p f e = λ i. p i || false
light_size true call l r (suc zero) p f e = λ i. p i || (e i && r)
light_size true call l r (suc (suc c)) p f e = absurd (omega (arith, f))

small_size : (x : Parts) (c : ℕ) → c ≤ 1 → node_size false x c ≤ 1
small_size x c f = by (is_computed x)
  where
    by : (b : Bool) → (if b then 1 else c) ≤ 1
    by true = omega arith
    by false = f

-- any node costs no more than a kept one
most_size : (b : Bool) (x : Parts) (c : ℕ) → (b ≡ true → is_computed x ≡ true) → node_size b x c ≤ price false x c
most_size true x c h =
    let e : price false x c ≡ 1 + store_size x.operator.suffix + read_size x.operator.suffix * c =
    ap (λ q. if q then 1 + store_size x.operator.suffix + read_size x.operator.suffix * c else c) (h refl) in
    omega (arith, e)
most_size false x c h = by (is_computed x)
  where
    by : (b : Bool) → (if b then 1 else c) ≤ (if b then 1 + store_size x.operator.suffix + read_size x.operator.suffix * c else c)
    by true = omega arith
    by false = omega arith

heavy_computed : (comp rest : Bool) → (comp && rest) ≡ true → comp ≡ true
heavy_computed true rest h = refl
heavy_computed false rest h = h

node_bound : (b : Bool) (n : ℕ) (x : Parts) (as' : List Act) (reads : ℕ → Bool) → (b ≡ true → MayBeLight (λ m. 0) n x as')
    → node_size (is_heavy as' reads n x) x (counts as' n) ≤ price b x (counts as' n + 0)
node_bound true n x as' reads h =
    let m = h refl in
    let few = m.few in
    let f : counts as' n ≤ 1 = omega (arith, few) in
    let e = light_size (is_computed x) (is_call x.operator.op) (late as' n) (reads_by reads x) (counts as' n) m.plain f m.early in
    let s : node_size (is_heavy as' reads n x) x (counts as' n) ≡ node_size false x (counts as' n) = ap (λ q. node_size q x (counts as' n)) e in
    let g = small_size x (counts as' n) f in
    omega (arith, s, g)
node_bound false n x as' reads h =
    let g = most_size (is_heavy as' reads n x) x (counts as' n) (λ q. heavy_computed (is_computed x) (is_call x.operator.op || is_needed (times_of (counts as' n)) (late as' n && reads_by reads x)) q) in
    let z : counts as' n ≡ counts as' n + 0 = omega arith in
    subst (λ k. node_size (is_heavy as' reads n x) x (counts as' n) ≤ price false x k) z g

pub weight_below : (light : ℕ → Bool) (xs : List Act) (reads : ℕ → Bool) → AreLight light (λ m. 0) xs → weight_of xs reads ≤ priced light (λ m. 0) xs
weight_below light [] reads h = omega arith
weight_below light (Made n x ∷ xs) reads h =
    let a = node_bound (light n) n x xs reads h.0 in
    let b = weight_below light xs (at reads n (not (is_heavy xs reads n x) && reads_by reads x)) h.1 in
    omega (arith, a, b)
weight_below light (Acts x ∷ xs) reads h = let b = weight_below light xs reads h in omega (arith, b)

-- ---- one use more

abbrev pub with_use : ℕ → (ℕ → ℕ) → (ℕ → ℕ)
with_use n due m = due m + hits m n

-- one use more costs at most this, where a light node becomes a kept one
abbrev pub IsCheap : ℕ → Parts → Type 0
IsCheap k x = (b : Bool) (c : ℕ) → (b ≡ true → c ≤ 1) → price false x (c + 1) ≤ price b x c + k

pub any_cheap : (x : Parts) → IsCheap 10 x
any_cheap x b c h = by b (is_computed x) refl h
  where
    st : ℕ
    st = store_size x.operator.suffix

    rd : ℕ
    rd = read_size x.operator.suffix

    kept : (comp : Bool) (n : ℕ) → is_computed x ≡ comp → price false x n ≡ (if comp then 1 + st + rd * n else n)
    kept comp n e = ap (λ q. if q then 1 + st + rd * n else n) e

    times : rd * (c + 1) ≡ rd * c + rd
    times = search arith

    by : (b comp : Bool) → is_computed x ≡ comp → (b ≡ true → c ≤ 1) → price false x (c + 1) ≤ price b x c + 10
    by true true e h =
        let s = sizes_of x.operator.suffix in let f = h refl in let p = kept true (c + 1) e in let g = grows rd (c + 1) 2 (omega (arith, f)) in let t : rd * 2 ≡ rd + rd = search arith in
        omega (arith, s.0, s.2, p, g, t)
    by true false e h = let f = h refl in let p = kept false (c + 1) e in omega (arith, f, p)
    by false true e h = let s = sizes_of x.operator.suffix in let p = kept true (c + 1) e in let q = kept true c e in omega (arith, times, s.2, p, q)
    by false false e h = let p = kept false (c + 1) e in let q = kept false c e in omega (arith, p, q)

pub cheap_more : (j k : ℕ) (x : Parts) → j ≤ k → IsCheap j x → IsCheap k x
cheap_more j k x l h b c f = let g = h b c f in omega (arith, l, g)

pub plain_cheap : (x : Parts) → is_computed x ≡ false → IsCheap 1 x
plain_cheap x e b c h = by b h
  where
    one : (b : Bool) (n : ℕ) → price false x n ≡ n
    one b n = ap (λ q. if q then 1 + store_size x.operator.suffix + read_size x.operator.suffix * n else n) e

    by : (b : Bool) → (b ≡ true → c ≤ 1) → price false x (c + 1) ≤ price b x c + 1
    by true h = let f = h refl in let g = one true (c + 1) in omega (arith, f, g)
    by false h = let f = one false c in let g = one false (c + 1) in omega (arith, f, g)
