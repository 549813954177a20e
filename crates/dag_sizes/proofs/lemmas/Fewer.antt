-- Without some unused nodes and some roots a block isn't heavier.
use Rattle.std.proofs.Common.{◌≡◌, ⊎_elim, ℕ, zero, suc, ◌+◌, ◌*◌, ◌≤◌, Bool, true, false, true≢false, List, [], ◌∷◌, inl, inr, refl, sym, ap, ◌∙◌, subst, arith}
use Rattle.std.specs.Prelude.{◌⊎◌, ◌&&◌, ◌||◌, not, if◌then◌else◌}
use Rattle.std.proofs.lemmas.Bool.{cases_eq}
use Rattle.dag_forest.specs.declared.act.Act.{Act}
use Rattle.dag_forest.specs.declared.act.Act.TheVariants.{Made, Acts}
use Rattle.dag_forest.specs.declared.parts.Parts.{Parts}
use Rattle.dag_forest.specs.Choice.{in_kids, counts, times_of, is_above, late, ends_stretch, is_computed, is_leaf, has_kids, is_needed, reads_by}
use Rattle.dag_forest.specs.Emission.{AreOnce}
use Rattle.dag_forest.specs.Entries.{is_call}
use Rattle.dag_forest.specs.Schedules.{at}
use Rattle.dag_forest.proofs.lemmas.Maps.{at_new, at_old, unmade, unmade_other}
use Rattle.dag_sizes.specs.Sizes.{store_size, read_size, node_size}
use Rattle.dag_sizes.specs.Weights.{IsFewer, root_count, is_heavy, weight_of}
use Rattle.dag_sizes.proofs.lemmas.OneUse.{heavy_by}
use Rattle.dag_sizes.proofs.lemmas.Parts.{not_ended}
use Rattle.dag_sizes.proofs.lemmas.Uses.{sum_kids, sum_uses, uses_at, no_uses}
use Rattle.dag_sizes.proofs.lemmas.Weighing.{node_uses, node_uses_few, owed, IsPaid, paid_behind, due_behind, reads_paid, size_by, plain_bound, grows, sizes_of, sized, sized_is, computed_size, plain_reads, no_leaf, or_not}

fewer_counts : (full xs : List Act) (m : ℕ) → IsFewer full xs → counts xs m ≤ counts full m
fewer_counts [] xs m h = let e : counts xs m ≡ 0 = ap (λ z. counts z m) h in omega (arith, e)
fewer_counts (Made n x ∷ full) xs m h = ⊎_elim
    (λ k. let e : counts xs m ≡ in_kids x.kids m + counts k.0 m = ap (λ z. counts z m) k.1 in let l = fewer_counts full k.0 m k.2 in omega (arith, e, l))
    (λ d. let l = fewer_counts full xs m d.2 in omega (arith, l))
    h
fewer_counts (Acts x ∷ full) xs m h = ⊎_elim
    (λ k. let e : counts xs m ≡ in_kids x.kids m + counts k.0 m = ap (λ z. counts z m) k.1 in let l = fewer_counts full k.0 m k.2 in omega (arith, e, l))
    (λ d. let l = fewer_counts full xs m d.1 in omega (arith, l))
    h

-- where the same acts use a node, it is used behind its stretch in both or in none
fewer_late : (full xs : List Act) (m : ℕ) → IsFewer full xs → counts xs m ≡ counts full m → late full m ≡ late xs m
fewer_late [] xs m h e = sym (ap (λ z. late z m) h)
fewer_late (Made n x ∷ full) xs m h e = ⊎_elim
    (λ k.
    let q : counts xs m ≡ in_kids x.kids m + counts k.0 m = ap (λ z. counts z m) k.1 in
    let d : counts k.0 m ≡ counts full m = omega (arith, q, e) in
    (λ i. if ends_stretch (Made n x) then is_above (sym d i) else fewer_late full k.0 m k.2 d i) ∙ sym (ap (λ z. late z m) k.1))
    (λ d.
    let l = fewer_counts full xs m d.2 in
    let q : counts xs m ≡ counts full m = omega (arith, e, l) in
    not_ended (is_call x.operator.op) (is_above (counts full m)) (late full m) d.1 ∙ fewer_late full xs m d.2 q)
    h
fewer_late (Acts x ∷ full) xs m h e = ⊎_elim
    (λ k.
    let q : counts xs m ≡ in_kids x.kids m + counts k.0 m = ap (λ z. counts z m) k.1 in
    let d : counts k.0 m ≡ counts full m = omega (arith, q, e) in
    (λ i. if ends_stretch (Acts x) then is_above (sym d i) else fewer_late full k.0 m k.2 d i) ∙ sym (ap (λ z. late z m) k.1))
    (λ d.
    let l = fewer_counts full xs m d.1 in
    let q : counts xs m ≡ counts full m = omega (arith, e, l) in
    not_ended (ends_stretch (Acts x)) (is_above (counts full m)) (late full m) d.0 ∙ fewer_late full xs m d.1 q)
    h

-- ---- one node

one_at_least : (w : Bool) (st rd c : ℕ) → 1 ≤ size_by w st rd c
one_at_least true st rd c = omega arith
one_at_least false st rd c = omega arith

unused_bound : (x : Parts) (c c1 k : ℕ) (l l1 r r1 : Bool) → c ≤ c1 → (c ≡ c1 → l1 ≡ l) → (r ≡ true → r1 ≡ false → 7 ≤ k)
    → size_by (is_needed (times_of c) (l && r)) (store_size x.operator.suffix) (read_size x.operator.suffix) c + c * owed false (not (is_needed (times_of c) (l && r)) && r) (not (is_needed (times_of c1) (l1 && r1)) && r1)
    ≤ size_by (is_needed (times_of c1) (l1 && r1)) (store_size x.operator.suffix) (read_size x.operator.suffix) c1 + k
unused_bound x zero c1 k l l1 r r1 less same pay =
    let z = one_at_least (is_needed (times_of c1) (l1 && r1)) (store_size x.operator.suffix) (read_size x.operator.suffix) c1 in
    let y : 0 * owed false r (not (is_needed (times_of c1) (l1 && r1)) && r1) ≡ 0 = search arith in
    omega (arith, z, y)
unused_bound x (suc c) c1 k l l1 r r1 less same pay =
    let s = sizes_of x.operator.suffix in
    plain_bound (store_size x.operator.suffix) (read_size x.operator.suffix) (suc c) c1 k l l1 r r1 s.0 s.1 s.2 (omega arith) less same pay

fewer_bound : (x : Parts) (c c1 k : ℕ) (l l1 : Bool) (reads heavy : ℕ → Bool) → c ≤ c1 → (c ≡ c1 → l1 ≡ l) → (reads_by reads x ≡ true → reads_by heavy x ≡ false → 7 ≤ k)
    → node_size (heavy_by (is_computed x) (is_call x.operator.op) (times_of c) l (reads_by reads x)) x c
    + c * owed (is_call x.operator.op) (not (heavy_by (is_computed x) (is_call x.operator.op) (times_of c) l (reads_by reads x)) && reads_by reads x) (not (heavy_by (is_computed x) (is_call x.operator.op) (times_of c1) l1 (reads_by heavy x)) && reads_by heavy x)
    ≤ node_size (heavy_by (is_computed x) (is_call x.operator.op) (times_of c1) l1 (reads_by heavy x)) x c1 + k
fewer_bound x c c1 k l l1 reads heavy less same pay =
    let st = store_size x.operator.suffix in
    let rd = read_size x.operator.suffix in
    let w = heavy_by (is_computed x) (is_call x.operator.op) (times_of c) l (reads_by reads x) in
    let v = heavy_by (is_computed x) (is_call x.operator.op) (times_of c1) l1 (reads_by heavy x) in
    let a = sized_is w x c in
    let b = sized_is v x c1 in
    let h : sized w (is_computed x) st rd c + c * owed (is_call x.operator.op) (not w && reads_by reads x) (not v && reads_by heavy x) ≤ sized v (is_computed x) st rd c1 + k = by (is_computed x) (is_call x.operator.op) (reads_by reads x) (reads_by heavy x) (plain_reads x reads) pay in
    omega (arith, a, b, h)
  where
    by : (comp call r r1 : Bool) → (comp ≡ false → r ≡ false) → (r ≡ true → r1 ≡ false → 7 ≤ k)
        → sized (heavy_by comp call (times_of c) l r) comp (store_size x.operator.suffix) (read_size x.operator.suffix) c + c * owed call (not (heavy_by comp call (times_of c) l r) && r) (not (heavy_by comp call (times_of c1) l1 r1) && r1)
        ≤ sized (heavy_by comp call (times_of c1) l1 r1) comp (store_size x.operator.suffix) (read_size x.operator.suffix) c1 + k
    by false true r r1 plain pay = let z : c * 0 ≡ 0 = search arith in omega (arith, z, less)
    by false false true r1 plain pay = absurd (true≢false (plain refl))
    by false false false r1 plain pay = let z : c * 0 ≡ 0 = search arith in omega (arith, z, less)
    by true true r r1 plain pay = let z : c * 0 ≡ 0 = search arith in let g = grows (read_size x.operator.suffix) c c1 less in omega (arith, z, g)
    by true false r r1 plain pay =
        let p = computed_size (is_needed (times_of c) (l && r)) (store_size x.operator.suffix) (read_size x.operator.suffix) c in
        let q = computed_size (is_needed (times_of c1) (l1 && r1)) (store_size x.operator.suffix) (read_size x.operator.suffix) c1 in
        let h = unused_bound x c c1 k l l1 r r1 less same pay in
        omega (arith, p, q, h)

-- ---- the acts

abbrev Weighed : List Act → List Act → Type 0
Weighed full xs = (made reads heavy : ℕ → Bool) (due : ℕ → ℕ) → AreOnce xs made → IsPaid xs reads heavy due → ((m : ℕ) → made m ≡ false → due m ≡ 0) → weight_of xs reads + root_count full ≤ (weight_of full heavy + root_count xs) + sum_uses xs due

-- a call is heavy
call_heavy : (comp call a r : Bool) → comp ≡ true → call ≡ true → (not (comp && (call || a)) && r) ≡ true → ⊥
call_heavy true true a r c k h = true≢false (sym h)
call_heavy false call a r c k h = true≢false (sym c)
call_heavy true false a r c k h = true≢false (sym k)

keep : (n : ℕ) (x : Parts) (full xs : List Act) → IsFewer full xs → Weighed full xs → Weighed (Made n x ∷ full) (Made n x ∷ xs)
keep n x full xs part rest made reads heavy due once paid none =
    let w = is_heavy xs reads n x in
    let v = is_heavy full heavy n x in
    let d = owed (is_call x.operator.op) (not w && reads_by reads x) (not v && reads_by heavy x) in
    let more = uses_at xs due n d (none n once.0) in
    let here = fewer_bound x (counts xs n) (counts full n) (sum_kids x.kids due) (late xs n) (late full n) reads heavy (fewer_counts full xs n part) (fewer_late full xs n part) (reads_paid x reads heavy due (node_uses xs) paid) in
    let later = rest (at made n true) (at reads n (not w && reads_by reads x)) (at heavy n (not v && reads_by heavy x)) (at due n d) once.1
    (paid_behind n x xs reads heavy due (not w && reads_by reads x) (not v && reads_by heavy x) d paid (λ a b. own a b (is_call x.operator.op) refl))
    (due_behind made due n d none) in
    omega (arith, more, here, later)
  where
    own : (not (is_heavy xs reads n x) && reads_by reads x) ≡ true → (not (is_heavy full heavy n x) && reads_by heavy x) ≡ false → (call : Bool) → is_call x.operator.op ≡ call
        → (7 ≤ owed call (not (is_heavy xs reads n x) && reads_by reads x) (not (is_heavy full heavy n x) && reads_by heavy x)) ⊎ (node_uses xs n ≡ 0)
    own a b false e = inl (let q : owed false (not (is_heavy xs reads n x) && reads_by reads x) (not (is_heavy full heavy n x) && reads_by heavy x) ≡ 7 = λ i. owed false (a i) (b i) in omega (arith, q))
    own a b true e = absurd (call_heavy (is_computed x) (is_call x.operator.op) (is_needed (times_of (counts xs n)) (late xs n && reads_by reads x)) (reads_by reads x) (or_not (has_kids x.kids) (is_leaf x.operator.op) (no_leaf x.operator.op e)) e a)

leave : (n : ℕ) (x : Parts) (full xs : List Act) → counts xs n ≡ 0 → Weighed full xs → Weighed (Made n x ∷ full) xs
leave n x full xs unused rest made reads heavy due once paid none =
    let b = not (is_heavy full heavy n x) && reads_by heavy x in
    let few = node_uses_few xs n in
    let later = rest made reads (at heavy n b) due once
    (λ m a c. ⊎_elim
    (λ e. inr (ap (node_uses xs) e ∙ (let z : node_uses xs n ≡ 0 = omega (arith, few, unused) in z)))
    (λ ne. paid m a (sym (at_old heavy n b m ne) ∙ c))
    (cases_eq m n))
    none in
    omega (arith, later)

acts : (x : Parts) (full xs : List Act) → Weighed full xs → Weighed (Acts x ∷ full) (Acts x ∷ xs)
acts x full xs rest made reads heavy due once paid none = let later = rest made reads heavy due once paid none in omega (arith, later)

root_leaves : (x : Parts) (full xs : List Act) → Weighed full xs → Weighed (Acts x ∷ full) xs
root_leaves x full xs rest made reads heavy due once paid none = let later = rest made reads heavy due once paid none in omega (arith, later)

weighed : (full xs : List Act) → IsFewer full xs → Weighed full xs
weighed [] xs part = subst (λ z. Weighed [] z) (sym part) (λ made reads heavy due once paid none. omega arith)
weighed (Made n x ∷ full) xs part = ⊎_elim
    (λ k. subst (λ z. Weighed (Made n x ∷ full) z) (sym k.1) (keep n x full k.0 k.2 (weighed full k.0 k.2)))
    (λ d. leave n x full xs d.0 (weighed full xs d.2))
    part
weighed (Acts x ∷ full) xs part = ⊎_elim
    (λ k. subst (λ z. Weighed (Acts x ∷ full) z) (sym k.1) (acts x full k.0 (weighed full k.0 k.2)))
    (λ d. root_leaves x full xs (weighed full xs d.1))
    part

pub fewer_weigh_less : (full xs : List Act) → AreOnce xs (λ m. false) → IsFewer full xs → weight_of xs (λ m. false) + root_count full ≤ weight_of full (λ m. false) + root_count xs
fewer_weigh_less full xs once part =
    let h = weighed full xs part (λ m. false) (λ m. false) (λ m. false) (λ m. 0) once (λ m a b. absurd (true≢false (sym a))) (λ m e. refl) in
    let z = no_uses xs in
    omega (arith, h, z)
