-- A block's size is no more than its weight: a node that is kept, and isn't heavy, has a heavy one at or below it that isn't kept.
use Rattle.std.proofs.Common.{◌≡◌, ⊎_elim, ℕ, zero, suc, ◌+◌, ◌*◌, ◌<◌, ◌≤◌, Bool, true, false, true≢false, List, [], ◌∷◌, inl, inr, refl, sym, ap, ◌∙◌, subst, arith, mul-le-mul_left}
use Rattle.std.specs.Prelude.{◌⊎◌, ◌&&◌, ◌||◌, not, if◌then◌else◌}
use Rattle.std.proofs.lemmas.Bool.{cases_eq, eqb-true}
use Rattle.op_forest.specs.declared.op.Op.{Op}
use Rattle.op_forest.specs.declared.op.Op.TheVariants as op
use Rattle.op_forest.specs.declared.suffix.Suffix.{Suffix}
use Rattle.op_forest.specs.declared.suffix.Suffix.TheVariants.{C, S, I, U, P, B, V}
use Rattle.dag_forest.specs.declared.act.Act.{Act}
use Rattle.dag_forest.specs.declared.act.Act.TheVariants.{Made, Acts}
use Rattle.dag_forest.specs.declared.entry.Entry.{Entry}
use Rattle.dag_forest.specs.declared.kids.Kids.{Kids}
use Rattle.dag_forest.specs.declared.kids.Kids.TheVariants.{Zero, One, Two}
use Rattle.dag_forest.specs.declared.parts.Parts.{Parts}
use Rattle.dag_forest.specs.Choice.{in_kids, counts, times_of, late, is_last, is_once, is_handed, is_computed, is_leaf, has_kids, is_needed, is_wanted, reads_by, kids_read}
use Rattle.dag_forest.specs.Emission.{AreOnce}
use Rattle.dag_forest.specs.Entries.{is_call, is_read}
use Rattle.dag_forest.specs.Schedules.{at, acts_of, in_turn}
use Rattle.dag_forest.proofs.lemmas.Maps.{at_new, at_old, unmade, unmade_other}
use Rattle.dag_forest.proofs.lemmas.Once.{acts_are_once}
use Rattle.dag_seam.proofs.lemmas.Within.{or_true, or_false}
use Rattle.dag_sizes.specs.Sizes.{store_size, read_size, node_size, size_of, split_size}
use Rattle.dag_sizes.specs.Weights.{all_acts, is_heavy, weight_of, weight}
use Rattle.dag_sizes.proofs.lemmas.Parts.{IsPart, counts_less, late_same, acts_part}
use Rattle.dag_sizes.proofs.lemmas.Sizing.{handed_once}
use Rattle.dag_sizes.proofs.lemmas.Uses.{hit, sum_kids, sum_uses, uses_at, no_uses, AreUsed, are_used}

-- ---- uses by nodes

-- how often a node is an operand of a node
abbrev pub node_uses : List Act → ℕ → ℕ
node_uses [] m = 0
node_uses (Made n x ∷ as') m = in_kids x.kids m + node_uses as' m
node_uses (Acts x ∷ as') m = node_uses as' m

pub node_uses_few : (xs : List Act) (m : ℕ) → node_uses xs m ≤ counts xs m
node_uses_few [] m = omega arith
node_uses_few (Made n x ∷ xs) m = let l = node_uses_few xs m in omega (arith, l)
node_uses_few (Acts x ∷ xs) m = let l = node_uses_few xs m in omega (arith, l)

last_in : (k : Kids) (n : ℕ) → is_last n k ≡ true → 1 ≤ in_kids k n
last_in Zero n h = absurd (true≢false (sym h))
last_in (One a) n h = let e = hit n a (eqb-true n a h) in omega (arith, e)
last_in (Two a c) n h = let e = hit n c (eqb-true n c h) in omega (arith, e)

pub and_first : (a b : Bool) → (a && b) ≡ true → a ≡ true
and_first true b h = refl
and_first false b h = h

-- no node uses a call that is handed
handed_uses : (xs : List Act) (n : ℕ) → is_handed xs n ≡ true → node_uses xs n ≡ 0
handed_uses [] n h = absurd (true≢false (sym h))
handed_uses (Made m x ∷ xs) n h = absurd (true≢false (sym h))
handed_uses (Acts x ∷ xs) n h =
    let one = handed_once (Acts x ∷ xs) n h in
    let l = last_in x.kids n (and_first (is_last n x.kids) (is_once (times_of (counts (Acts x ∷ xs) n))) h) in
    let f = node_uses_few xs n in
    omega (arith, one, l, f)

-- ---- what is owed

-- of a node that isn't kept and reads, where by its weight it doesn't
abbrev pub owed : Bool → Bool → Bool → ℕ
owed true b d = 0
owed false true false = 7
owed false true true = 0
owed false false d = 0

-- each such node has its due, or no node uses it
abbrev pub IsPaid : List Act → (ℕ → Bool) → (ℕ → Bool) → (ℕ → ℕ) → Type 0
IsPaid xs reads heavy due = (m : ℕ) → reads m ≡ true → heavy m ≡ false → (7 ≤ due m) ⊎ (node_uses xs m ≡ 0)

-- one operand has its due
kid_paid : (k : Kids) (reads heavy : ℕ → Bool) (due : ℕ → ℕ) (c : ℕ → ℕ) → ((m : ℕ) → reads m ≡ true → heavy m ≡ false → (7 ≤ due m) ⊎ (in_kids k m + c m ≡ 0)) → kids_read reads k ≡ true → kids_read heavy k ≡ false → 7 ≤ sum_kids k due
kid_paid Zero reads heavy due c paid h g = absurd (true≢false (sym h))
kid_paid (One a) reads heavy due c paid h g = ⊎_elim (λ l. l) (λ z. absurd (let e = hit a a refl in omega (arith, z, e))) (paid a h g)
kid_paid (Two a b) reads heavy due c paid h g =
    let o = or_false (heavy a) (heavy b) g in
    ⊎_elim
    (λ e. ⊎_elim (λ l. omega (arith, l)) (λ z. absurd (let q = hit a a refl in omega (arith, z, q))) (paid a e o.0))
    (λ e. ⊎_elim (λ l. omega (arith, l)) (λ z. absurd (let q = hit b b refl in omega (arith, z, q))) (paid b e o.1))
    (or_true (reads a) (reads b) h)

pub reads_paid : (x : Parts) (reads heavy : ℕ → Bool) (due : ℕ → ℕ) (c : ℕ → ℕ) → ((m : ℕ) → reads m ≡ true → heavy m ≡ false → (7 ≤ due m) ⊎ (in_kids x.kids m + c m ≡ 0)) → reads_by reads x ≡ true → reads_by heavy x ≡ false → 7 ≤ sum_kids x.kids due
reads_paid x reads heavy due c paid h g =
    let p = or_false (is_read x.operator.op) (is_call x.operator.op || kids_read heavy x.kids) g in
    let q = or_false (is_call x.operator.op) (kids_read heavy x.kids) p.1 in
    kid_paid x.kids reads heavy due c paid (sym (λ i. p.0 i || (q.0 i || kids_read reads x.kids)) ∙ h) q.1

-- ---- one node

pub sizes_of : (s : Suffix) → (store_size s ≡ read_size s + 1) × (2 ≤ read_size s) × (read_size s ≤ 3)
sizes_of C = (refl, omega arith, omega arith)
sizes_of S = (refl, omega arith, omega arith)
sizes_of I = (refl, omega arith, omega arith)
sizes_of U = (refl, omega arith, omega arith)
sizes_of P = (refl, omega arith, omega arith)
sizes_of B = (refl, omega arith, omega arith)
sizes_of V = (refl, omega arith, omega arith)

pub grows : (r c c1 : ℕ) → c ≤ c1 → r * c ≤ r * c1
grows r c c1 l = mul-le-mul_left r l

abbrev pub size_by : Bool → ℕ → ℕ → ℕ → ℕ
size_by true st rd c = 1 + st + rd * c
size_by false st rd c = 1

-- a computed node that is no call: c uses, c1 in all; l whether late, r whether it reads, and r1 by its weight
pub plain_bound : (st rd c c1 k : ℕ) (l l1 r r1 : Bool) → st ≡ rd + 1 → 2 ≤ rd → rd ≤ 3 → 0 < c → c ≤ c1 → (c ≡ c1 → l1 ≡ l) → (r ≡ true → r1 ≡ false → 7 ≤ k)
    → size_by (is_needed (times_of c) (l && r)) st rd c + c * owed false (not (is_needed (times_of c) (l && r)) && r) (not (is_needed (times_of c1) (l1 && r1)) && r1) ≤ size_by (is_needed (times_of c1) (l1 && r1)) st rd c1 + k
plain_bound st rd zero c1 k l l1 r r1 e low high above less same pay = absurd (omega (arith, above))
plain_bound st rd (suc (suc c)) zero k l l1 r r1 e low high above less same pay = absurd (omega (arith, less))
plain_bound st rd (suc (suc c)) (suc zero) k l l1 r r1 e low high above less same pay = absurd (omega (arith, less))
plain_bound st rd (suc (suc c)) (suc (suc c1)) k l l1 r r1 e low high above less same pay =
    let g = grows rd (suc (suc c)) (suc (suc c1)) less in
    let z : suc (suc c) * 0 ≡ 0 = search arith in
    omega (arith, g, z)
plain_bound st rd (suc zero) zero k l l1 r r1 e low high above less same pay = absurd (omega (arith, less))
plain_bound st rd (suc zero) (suc zero) k false l1 r r1 e low high above less same pay = by l1 r r1 (same refl) pay
  where
    by : (l1 r r1 : Bool) → l1 ≡ false → (r ≡ true → r1 ≡ false → 7 ≤ k) → 1 + 1 * owed false r (not (l1 && r1) && r1) ≤ size_by (l1 && r1) st rd 1 + k
    by true r r1 q pay = absurd (true≢false q)
    by false true true q pay = omega arith
    by false true false q pay = let p = pay refl refl in omega (arith, p)
    by false false r1 q pay = omega arith
plain_bound st rd (suc zero) (suc zero) k true l1 r r1 e low high above less same pay = by l1 r r1 (same refl) pay
  where
    by : (l1 r r1 : Bool) → l1 ≡ true → (r ≡ true → r1 ≡ false → 7 ≤ k) → size_by r st rd 1 + 1 * owed false (not r && r) (not (l1 && r1) && r1) ≤ size_by (l1 && r1) st rd 1 + k
    by false r r1 q pay = absurd (true≢false (sym q))
    by true true true q pay = omega arith
    by true true false q pay = let p = pay refl refl in let m : rd * 1 ≡ rd = search arith in omega (arith, p, m, e, high)
    by true false true q pay = omega arith
    by true false false q pay = omega arith
plain_bound st rd (suc zero) (suc (suc c1)) k l l1 r r1 e low high above less same pay =
    let g = grows rd 2 (suc (suc c1)) (omega arith) in
    let d = twice rd in
    by (l && r) r g d
  where
    twice : (a : ℕ) → (a * 2 ≡ a + a) × (a * 1 ≡ a)
    twice a = (search arith, search arith)

    by : (b r : Bool) → rd * 2 ≤ rd * suc (suc c1) → (rd * 2 ≡ rd + rd) × (rd * 1 ≡ rd) → size_by b st rd 1 + 1 * owed false (not b && r) false ≤ (1 + st + rd * suc (suc c1)) + k
    by true r g d = let p = d.0 in let q = d.1 in omega (arith, g, p, q)
    by false true g d = let p = d.0 in omega (arith, g, p, e, low)
    by false false g d = omega arith

abbrev pub sized : Bool → Bool → ℕ → ℕ → ℕ → ℕ
sized true comp st rd c = 1 + st + rd * c
sized false comp st rd c = if comp then 1 else c

pub sized_is : (w : Bool) (x : Parts) (c : ℕ) → node_size w x c ≡ sized w (is_computed x) (store_size x.operator.suffix) (read_size x.operator.suffix) c
sized_is true x c = refl
sized_is false x c = refl

pub computed_size : (w : Bool) (st rd c : ℕ) → sized w true st rd c ≡ size_by w st rd c
computed_size true st rd c = refl
computed_size false st rd c = refl

leaf_reads : (o : Op) → is_leaf o ≡ true → (is_read o ≡ false) × (is_call o ≡ false)
leaf_reads op.Cnst h = (refl, refl)
leaf_reads op.Addrg h = (refl, refl)
leaf_reads op.Addrf h = (refl, refl)
leaf_reads op.Addrl h = (refl, refl)
leaf_reads o h = absurd (true≢false (sym h))

not_false : (b : Bool) → not b ≡ false → b ≡ true
not_false true h = refl
not_false false h = absurd (true≢false h)

no_kids : (k : Kids) (reads : ℕ → Bool) → has_kids k ≡ false → kids_read reads k ≡ false
no_kids Zero reads h = refl
no_kids (One a) reads h = absurd (true≢false h)
no_kids (Two a c) reads h = absurd (true≢false h)

-- an address or a constant reads nothing
pub plain_reads : (x : Parts) (reads : ℕ → Bool) → is_computed x ≡ false → reads_by reads x ≡ false
plain_reads x reads h =
    let o = or_false (has_kids x.kids) (not (is_leaf x.operator.op)) h in
    let l = leaf_reads x.operator.op (not_false (is_leaf x.operator.op) o.1) in
    let k = no_kids x.kids reads o.0 in
    λ i. l.0 i || (l.1 i || k i)

node_bound : (x : Parts) (c c1 k : ℕ) (l l1 handed : Bool) (reads heavy : ℕ → Bool) → 0 < c → c ≤ c1 → (c ≡ c1 → l1 ≡ l) → (reads_by reads x ≡ true → reads_by heavy x ≡ false → 7 ≤ k)
    → node_size (is_computed x && (if is_call x.operator.op then not handed else is_needed (times_of c) (l && reads_by reads x))) x c
    + c * owed (is_call x.operator.op) (not (is_computed x && (if is_call x.operator.op then not handed else is_needed (times_of c) (l && reads_by reads x))) && reads_by reads x) (not (is_computed x && (is_call x.operator.op || is_needed (times_of c1) (l1 && reads_by heavy x))) && reads_by heavy x)
    ≤ node_size (is_computed x && (is_call x.operator.op || is_needed (times_of c1) (l1 && reads_by heavy x))) x c1 + k
node_bound x c c1 k l l1 handed reads heavy above less same pay =
    let st = store_size x.operator.suffix in
    let rd = read_size x.operator.suffix in
    let w = is_computed x && (if is_call x.operator.op then not handed else is_needed (times_of c) (l && reads_by reads x)) in
    let v = is_computed x && (is_call x.operator.op || is_needed (times_of c1) (l1 && reads_by heavy x)) in
    let a = sized_is w x c in
    let b = sized_is v x c1 in
    let h : sized w (is_computed x) st rd c + c * owed (is_call x.operator.op) (not w && reads_by reads x) (not v && reads_by heavy x) ≤ sized v (is_computed x) st rd c1 + k = by (is_computed x) (is_call x.operator.op) (reads_by reads x) (reads_by heavy x) (plain_reads x reads) pay in
    omega (arith, a, b, h)
  where
    by : (comp call r r1 : Bool) → (comp ≡ false → r ≡ false) → (r ≡ true → r1 ≡ false → 7 ≤ k)
        → sized (comp && (if call then not handed else is_needed (times_of c) (l && r))) comp (store_size x.operator.suffix) (read_size x.operator.suffix) c
        + c * owed call (not (comp && (if call then not handed else is_needed (times_of c) (l && r))) && r) (not (comp && (call || is_needed (times_of c1) (l1 && r1))) && r1)
        ≤ sized (comp && (call || is_needed (times_of c1) (l1 && r1))) comp (store_size x.operator.suffix) (read_size x.operator.suffix) c1 + k
    by false true r r1 plain pay = let z : c * 0 ≡ 0 = search arith in omega (arith, z, less)
    by false false true r1 plain pay = absurd (true≢false (plain refl))
    by false false false r1 plain pay = let z : c * 0 ≡ 0 = search arith in omega (arith, z, less)
    by true true r r1 plain pay = call_bound handed
      where
        call_bound : (h : Bool) → sized (not h) true (store_size x.operator.suffix) (read_size x.operator.suffix) c + c * 0 ≤ (1 + store_size x.operator.suffix + read_size x.operator.suffix * c1) + k
        call_bound true = let z : c * 0 ≡ 0 = search arith in omega (arith, z)
        call_bound false = let z : c * 0 ≡ 0 = search arith in let g = grows (read_size x.operator.suffix) c c1 less in omega (arith, z, g)
    by true false r r1 plain pay =
        let s = sizes_of x.operator.suffix in
        let p = computed_size (is_needed (times_of c) (l && r)) (store_size x.operator.suffix) (read_size x.operator.suffix) c in
        let q = computed_size (is_needed (times_of c1) (l1 && r1)) (store_size x.operator.suffix) (read_size x.operator.suffix) c1 in
        let h = plain_bound (store_size x.operator.suffix) (read_size x.operator.suffix) c c1 k l l1 r r1 s.0 s.1 s.2 above less same pay in
        omega (arith, p, q, h)

-- ---- what a block does

abbrev Weighed : List Act → List Act → Type 0
Weighed full xs = (made reads heavy : ℕ → Bool) (due : ℕ → ℕ) → AreOnce xs made → AreUsed xs → IsPaid xs reads heavy due → ((m : ℕ) → made m ≡ false → due m ≡ 0) → size_of xs reads ≤ weight_of full heavy + sum_uses xs due

pub no_leaf : (o : Op) → is_call o ≡ true → is_leaf o ≡ false
no_leaf op.Call h = refl
no_leaf o h = absurd (true≢false (sym h))

pub or_not : (a b : Bool) → b ≡ false → (a || not b) ≡ true
or_not true b h = refl
or_not false b h = ap not h

unkept_call : (comp call handed a : Bool) → comp ≡ true → call ≡ true → (comp && (if call then not handed else a)) ≡ false → handed ≡ true
unkept_call false call handed a c k h = absurd (true≢false (sym c))
unkept_call true false handed a c k h = absurd (true≢false (sym k))
unkept_call true true handed a c k h = not_false handed h

pub not_true : (b : Bool) → not b ≡ true → b ≡ false
not_true true h = absurd (true≢false (sym h))
not_true false h = refl

-- behind a node all is paid, if so are its own uses, by what is due for it
pub paid_behind : (n : ℕ) (x : Parts) (xs : List Act) (reads heavy : ℕ → Bool) (due : ℕ → ℕ) (b c : Bool) (d : ℕ) → IsPaid (Made n x ∷ xs) reads heavy due
    → (b ≡ true → c ≡ false → (7 ≤ d) ⊎ (node_uses xs n ≡ 0)) → IsPaid xs (at reads n b) (at heavy n c) (at due n d)
paid_behind n x xs reads heavy due b c d paid own = λ m p q. ⊎_elim
    (λ e. subst (λ z. (7 ≤ at due n d z) ⊎ (node_uses xs z ≡ 0)) (sym e) (subst (λ z. (7 ≤ z) ⊎ (node_uses xs n ≡ 0)) (sym (at_new due n d))
    (own (sym (ap (at reads n b) e ∙ at_new reads n b) ∙ p) (sym (ap (at heavy n c) e ∙ at_new heavy n c) ∙ q))))
    (λ ne. ⊎_elim (λ l. inl (subst (λ z. 7 ≤ z) (sym (at_old due n d m ne)) l)) (λ z. inr (let u : in_kids x.kids m + node_uses xs m ≡ 0 = z in omega (arith, u)))
    (paid m (sym (at_old reads n b m ne) ∙ p) (sym (at_old heavy n c m ne) ∙ q)))
    (cases_eq m n)

-- and nothing is due for a node that isn't made yet
pub due_behind : (made : ℕ → Bool) (due : ℕ → ℕ) (n d : ℕ) → ((m : ℕ) → made m ≡ false → due m ≡ 0) → (m : ℕ) → at made n true m ≡ false → at due n d m ≡ 0
due_behind made due n d none m un = at_old due n d m (unmade_other made n m un) ∙ none m (unmade made n m un)

keep : (n : ℕ) (x : Parts) (full xs : List Act) → IsPart full xs → Weighed full xs → Weighed (Made n x ∷ full) (Made n x ∷ xs)
keep n x full xs part rest made reads heavy due once used_ paid none =
    let w = is_wanted xs reads n x in
    let v = is_heavy full heavy n x in
    let d = owed (is_call x.operator.op) (not w && reads_by reads x) (not v && reads_by heavy x) in
    let more = uses_at xs due n d (none n once.0) in
    let here = node_bound x (counts xs n) (counts full n) (sum_kids x.kids due) (late xs n) (late full n) (is_handed xs n) reads heavy used_.0 (counts_less full xs n part) (late_same full xs n part) (reads_paid x reads heavy due (node_uses xs) paid) in
    let later = rest (at made n true) (at reads n (not w && reads_by reads x)) (at heavy n (not v && reads_by heavy x)) (at due n d) once.1 used_.1
    (paid_behind n x xs reads heavy due (not w && reads_by reads x) (not v && reads_by heavy x) d paid (λ a b. own a b (is_call x.operator.op) refl))
    (due_behind made due n d none) in
    omega (arith, more, here, later)
  where
    own : (not (is_wanted xs reads n x) && reads_by reads x) ≡ true → (not (is_heavy full heavy n x) && reads_by heavy x) ≡ false → (call : Bool) → is_call x.operator.op ≡ call
        → (7 ≤ owed call (not (is_wanted xs reads n x) && reads_by reads x) (not (is_heavy full heavy n x) && reads_by heavy x)) ⊎ (node_uses xs n ≡ 0)
    own a b false e = inl (let q : owed false (not (is_wanted xs reads n x) && reads_by reads x) (not (is_heavy full heavy n x) && reads_by heavy x) ≡ 7 = λ i. owed false (a i) (b i) in omega (arith, q))
    own a b true e = inr (handed_uses xs n (unkept_call (is_computed x) (is_call x.operator.op) (is_handed xs n) (is_needed (times_of (counts xs n)) (late xs n && reads_by reads x))
        (or_not (has_kids x.kids) (is_leaf x.operator.op) (no_leaf x.operator.op e)) e
        (not_true (is_wanted xs reads n x) (and_first (not (is_wanted xs reads n x)) (reads_by reads x) a))))

leave : (n : ℕ) (x : Parts) (full xs : List Act) → counts xs n ≡ 0 → Weighed full xs → Weighed (Made n x ∷ full) xs
leave n x full xs unused rest made reads heavy due once used_ paid none =
    let b = not (is_heavy full heavy n x) && reads_by heavy x in
    let few = node_uses_few xs n in
    let later = rest made reads (at heavy n b) due once used_
    (λ m a c. ⊎_elim
    (λ e. inr (ap (node_uses xs) e ∙ (let z : node_uses xs n ≡ 0 = omega (arith, few, unused) in z)))
    (λ ne. paid m a (sym (at_old heavy n b m ne) ∙ c))
    (cases_eq m n))
    none in
    omega (arith, later)

acts : (x : Parts) (full xs : List Act) → Weighed full xs → Weighed (Acts x ∷ full) (Acts x ∷ xs)
acts x full xs rest made reads heavy due once used_ paid none = let later = rest made reads heavy due once used_ paid none in omega (arith, later)

weighed : (full xs : List Act) → IsPart full xs → Weighed full xs
weighed [] xs part = subst (λ z. Weighed [] z) (sym part) (λ made reads heavy due once used_ paid none. omega arith)
weighed (Made n x ∷ full) xs part = ⊎_elim
    (λ k. subst (λ z. Weighed (Made n x ∷ full) z) (sym k.1) (keep n x full k.0 k.2 (weighed full k.0 k.2)))
    (λ d. leave n x full xs d.0 (weighed full xs d.2))
    part
weighed (Acts x ∷ full) xs part = subst (λ z. Weighed (Acts x ∷ full) z) (sym part.1) (acts x full part.0 (weighed full part.0 part.2))

pub size_has_bound : (es : List Entry) → split_size es ≤ weight es
size_has_bound es =
    let h = weighed (all_acts es) (acts_of es) (acts_part es) (λ m. false) (λ m. false) (λ m. false) (λ m. 0) (acts_are_once es) (are_used (in_turn es 0 [])) (λ m a b. absurd (true≢false (sym a))) (λ m e. refl) in
    let z = no_uses (acts_of es) in
    omega (arith, h, z)
