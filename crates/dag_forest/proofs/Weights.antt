-- Each node that is made is computed once.
use Rattle.std.proofs.Common.{◌≡◌, ⊎_elim, ℕ, zero, suc, ◌+◌, Bool, true, false, true≢false, Option, Some, None, List, [], ◌∷◌, refl, sym, ap, ◌∙◌, arith, cond}
use Rattle.std.specs.Prelude.{◌||◌, ◌==◌, not, if◌then◌else◌}
use Rattle.std.proofs.lemmas.Bool.{cases_eq, eq-eqb, ne_eqb}
use Rattle.op_forest.specs.Nodes.{Head}
use Rattle.op_forest.specs.Nodes.{Node as Tree}
use Rattle.dag_forest.specs.declared.kids.Kids.{Kids}
use Rattle.dag_forest.specs.declared.kids.Kids.TheVariants.{Zero, One, Two}
use Rattle.dag_forest.specs.declared.parts.Parts.{Parts}
use Rattle.dag_forest.specs.Schedules.{Act, Made, Acts, head_of, at}
use Rattle.dag_forest.specs.Meaning.{Temporary, Keeps}
use Rattle.dag_forest.specs.Emission.{tree_by, tree_at, emit, emitted, AreOnce}
use Rattle.dag_forest.specs.Choice.{hits, in_kids, counts, has_kids, is_leaf, is_computed}
use Rattle.dag_forest.specs.Places.{Marked, Plain, erased, erased_root, erased_all, places, root_places, all_places, marked_over, marked_node, marked_root, marked_by, marked, times_computed}
use Rattle.dag_forest.proofs.lemmas.Maps.{at_new, at_old}
use Rattle.dag_forest.proofs.Fits.{hit, miss}

-- ---- maps

cond_map : {A B : Type 0} (g : A → B) (b : Bool) (v w : A) → g (cond b v w) ≡ cond b (g v) (g w)
cond_map g true v w = refl
cond_map g false v w = refl

at_map : {A B : Type 0} (g : A → B) (f : ℕ → A) (n : ℕ) (v : A) → (λ (m : ℕ). g (at f n v m)) ≡ at (λ m. g (f m)) n (g v)
at_map g f n v = λ i m. cond_map g (m == n) v (f m) i

abbrev pub zeros : ℕ → ℕ
zeros q = 0

abbrev unit : ℕ → ℕ → ℕ
unit p = at zeros p 1

at_zeros : (n : ℕ) → at zeros n 0 ≡ zeros
at_zeros n = λ i q. both (q == n) i
  where
    both : (b : Bool) → ◌≡◌ {A = ℕ} (cond b 0 0) 0
    both true = refl
    both false = refl

unit_here : (p : ℕ) → unit p p ≡ 1
unit_here p = at_new zeros p 1

unit_not : (p q : ℕ) → (q ≡ p → ⊥) → unit p q ≡ 0
unit_not p q ne = at_old zeros p 1 q ne

unit_hits : (p q : ℕ) → unit p q ≡ hits p q
unit_hits p q = ⊎_elim (λ e. ap (unit p) e ∙ unit_here p ∙ sym (ap (hits p) e ∙ hit p)) (λ ne. unit_not p q ne ∙ sym (miss p q (λ d. ne (sym d)))) (cases_eq q p)

-- a later node told apart from an earlier one
apart_at : (p n k : ℕ) → (n ≡ p → ⊥) → at (unit p) n k ≡ (λ q. unit p q + at zeros n k q)
apart_at p n k ne = λ i q. each q i
  where
    each : (q : ℕ) → at (unit p) n k q ≡ unit p q + at zeros n k q
    each q = ⊎_elim
        (λ e. let a = ap (at (unit p) n k) e ∙ at_new (unit p) n k in let c = ap (at zeros n k) e ∙ at_new zeros n k in let d = unit_not p q (λ z. ne (sym e ∙ z)) in omega (arith, a, c, d))
        (λ e. let a = at_old (unit p) n k q e in let c = at_old zeros n k q e in omega (arith, a, c))
        (cases_eq q n)

same_at : (p n : ℕ) → (n ≡ p → ⊥) → at (unit p) n 0 ≡ unit p
same_at p n ne = λ i q. each q i
  where
    each : (q : ℕ) → at (unit p) n 0 q ≡ unit p q
    each q = ⊎_elim
        (λ e. ap (at (unit p) n 0) e ∙ at_new (unit p) n 0 ∙ sym (unit_not p q (λ z. ne (sym e ∙ z))))
        (λ e. at_old (unit p) n 0 q e)
        (cases_eq q n)

-- ---- without their numbers they are the trees

erased_over : (n : ℕ) (h : Head) (ts : ℕ → Marked) (k : Kids) → erased (marked_over n h ts k) ≡ tree_by (λ m. erased (ts m)) h k
erased_over n h ts Zero = refl
erased_over n h ts (One a) = refl
erased_over n h ts (Two a c) = refl

erased_node : (n : ℕ) (ts : ℕ → Marked) (x : Parts) → erased (marked_node n ts x) ≡ tree_at (λ m. erased (ts m)) x
erased_node n ts x = by (is_computed x)
  where
    by : (b : Bool) → erased (if b then marked_over n (head_of x) ts x.kids else Plain (tree_at (λ m. erased (ts m)) x)) ≡ tree_at (λ m. erased (ts m)) x
    by true = erased_over n (head_of x) ts x.kids
    by false = refl

erased_act : (h : Head) (ts : ℕ → Marked) (k : Kids) → erased_root (marked_root h ts k) ≡ tree_by (λ m. erased (ts m)) h k
erased_act h ts Zero = refl
erased_act h ts (One a) = refl
erased_act h ts (Two a c) = refl

pub erased_are : (keeps : Keeps) (xs : List Act) (ts : ℕ → Marked) (rest : List Tree) → erased_all (marked keeps xs ts) rest ≡ emit keeps xs (λ m. erased (ts m)) rest
erased_are keeps [] ts rest = refl
erased_are keeps (Made n x ∷ as') ts rest =
    by (keeps n) (λ t. erased_are keeps as' (at ts n t) rest ∙ ap (λ us. emit keeps as' us rest) (at_map erased ts n t))
  where
    by : (o : Option Temporary) → ((t : Marked) → erased_all (marked keeps as' (at ts n t)) rest ≡ emit keeps as' (at (λ m. erased (ts m)) n (erased t)) rest)
        → erased_all (marked_by o (marked_node n ts x) (λ t. marked keeps as' (at ts n t))) rest ≡ emitted o (tree_at (λ m. erased (ts m)) x) (λ t. emit keeps as' (at (λ m. erased (ts m)) n t) rest)
    by None go = go (marked_node n ts x) ∙ ap (λ t. emit keeps as' (at (λ m. erased (ts m)) n t) rest) (erased_node n ts x)
    by (Some y) go = ap (λ t. y.store t ∷ erased_all (marked keeps as' (at ts n (Plain y.read))) rest) (erased_node n ts x) ∙ ap (λ l. y.store (tree_at (λ m. erased (ts m)) x) ∷ l) (go (Plain y.read))
erased_are keeps (Acts x ∷ as') ts rest = ap (λ t. t ∷ erased_all (marked keeps as' ts) rest) (erased_act (head_of x) ts x.kids) ∙ ap (λ l. tree_at (λ m. erased (ts m)) x ∷ l) (erased_are keeps as' ts rest)

-- ---- weights

abbrev sum_kids : Kids → (ℕ → ℕ) → ℕ
sum_kids Zero f = 0
sum_kids (One a) f = f a
sum_kids (Two a c) f = f a + f c

abbrev node_weight : (ℕ → ℕ) → ℕ → Parts → (ℕ → ℕ) → ℕ
node_weight u n x f = if is_computed x then u n + sum_kids x.kids f else 0

abbrev weighed_by : Option Temporary → ℕ → (ℕ → ℕ) → ℕ
weighed_by None g go = go g
weighed_by (Some y) g go = g + go 0

-- the trees' weight, where u gives that of each computed node's own place, and f that of the earlier nodes' trees
abbrev weight : (ℕ → ℕ) → Keeps → List Act → (ℕ → ℕ) → ℕ
weight u keeps [] f = 0
weight u keeps (Made n x ∷ as') f = weighed_by (keeps n) (node_weight u n x f) (λ g. weight u keeps as' (at f n g))
weight u keeps (Acts x ∷ as') f = sum_kids x.kids f + weight u keeps as' f

places_over : (m n : ℕ) (h : Head) (ts : ℕ → Marked) (k : Kids) → places m (marked_over n h ts k) ≡ hits m n + sum_kids k (λ q. places m (ts q))
places_over m n h ts Zero = omega arith
places_over m n h ts (One a) = refl
places_over m n h ts (Two a c) = refl

places_node : (m n : ℕ) (ts : ℕ → Marked) (x : Parts) → places m (marked_node n ts x) ≡ node_weight (hits m) n x (λ q. places m (ts q))
places_node m n ts x = by (is_computed x)
  where
    by : (b : Bool) → places m (if b then marked_over n (head_of x) ts x.kids else Plain (tree_at (λ q. erased (ts q)) x)) ≡ (if b then hits m n + sum_kids x.kids (λ q. places m (ts q)) else 0)
    by true = places_over m n (head_of x) ts x.kids
    by false = refl

places_act : (m : ℕ) (h : Head) (ts : ℕ → Marked) (k : Kids) → root_places m (marked_root h ts k) ≡ sum_kids k (λ q. places m (ts q))
places_act m h ts Zero = refl
places_act m h ts (One a) = refl
places_act m h ts (Two a c) = refl

places_weigh : (m : ℕ) (keeps : Keeps) (xs : List Act) (ts : ℕ → Marked) → all_places m (marked keeps xs ts) ≡ weight (hits m) keeps xs (λ q. places m (ts q))
places_weigh m keeps [] ts = refl
places_weigh m keeps (Made n x ∷ as') ts =
    by (keeps n) (λ t. places_weigh m keeps as' (at ts n t) ∙ ap (weight (hits m) keeps as') (at_map (places m) ts n t))
  where
    by : (o : Option Temporary) → ((t : Marked) → all_places m (marked keeps as' (at ts n t)) ≡ weight (hits m) keeps as' (at (λ q. places m (ts q)) n (places m t)))
        → all_places m (marked_by o (marked_node n ts x) (λ t. marked keeps as' (at ts n t))) ≡ weighed_by o (node_weight (hits m) n x (λ q. places m (ts q))) (λ g. weight (hits m) keeps as' (at (λ q. places m (ts q)) n g))
    by None go = go (marked_node n ts x) ∙ ap (λ g. weight (hits m) keeps as' (at (λ q. places m (ts q)) n g)) (places_node m n ts x)
    by (Some y) go = let a = places_node m n ts x in let b = go (Plain y.read) in omega (arith, a, b)
places_weigh m keeps (Acts x ∷ as') ts = let a = places_act m (head_of x) ts x.kids in let b = places_weigh m keeps as' ts in omega (arith, a, b)

-- ---- weights add up

kids_add : (k : Kids) (f g : ℕ → ℕ) → sum_kids k (λ q. f q + g q) ≡ sum_kids k f + sum_kids k g
kids_add Zero f g = refl
kids_add (One a) f g = refl
kids_add (Two a c) f g = omega arith

at_add : (f g : ℕ → ℕ) (n x y : ℕ) → at (λ q. f q + g q) n (x + y) ≡ (λ q. at f n x q + at g n y q)
at_add f g n x y = λ i q. both (q == n) q i
  where
    both : (b : Bool) (q : ℕ) → cond b (x + y) (f q + g q) ≡ cond b x (f q) + cond b y (g q)
    both true q = refl
    both false q = refl

abbrev W : Keeps → List Act → (ℕ → ℕ) → ℕ
W keeps xs f = weight zeros keeps xs f

weight_add : (keeps : Keeps) (xs : List Act) (f g : ℕ → ℕ) → W keeps xs (λ q. f q + g q) ≡ W keeps xs f + W keeps xs g
weight_add keeps [] f g = refl
weight_add keeps (Made n x ∷ as') f g =
    by (keeps n) (λ v w. ap (W keeps as') (at_add f g n v w) ∙ weight_add keeps as' (at f n v) (at g n w))
  where
    node : (b : Bool) → (if b then 0 + sum_kids x.kids (λ q. f q + g q) else 0) ≡ (if b then 0 + sum_kids x.kids f else 0) + (if b then 0 + sum_kids x.kids g else 0)
    node true = let a = kids_add x.kids f g in omega (arith, a)
    node false = refl

    by : (o : Option Temporary) → ((v w : ℕ) → W keeps as' (at (λ q. f q + g q) n (v + w)) ≡ W keeps as' (at f n v) + W keeps as' (at g n w))
        → weighed_by o (node_weight zeros n x (λ q. f q + g q)) (λ u. W keeps as' (at (λ q. f q + g q) n u)) ≡ weighed_by o (node_weight zeros n x f) (λ u. W keeps as' (at f n u)) + weighed_by o (node_weight zeros n x g) (λ u. W keeps as' (at g n u))
    by None go = ap (λ u. W keeps as' (at (λ q. f q + g q) n u)) (node (is_computed x)) ∙ go (node_weight zeros n x f) (node_weight zeros n x g)
    by (Some y) go = let a = node (is_computed x) in let b = go 0 0 in omega (arith, a, b)
weight_add keeps (Acts x ∷ as') f g = let a = kids_add x.kids f g in let b = weight_add keeps as' f g in omega (arith, a, b)

weight_zero : (keeps : Keeps) (xs : List Act) → W keeps xs zeros ≡ 0
weight_zero keeps xs = let a = weight_add keeps xs zeros zeros in omega (arith, a)

scaled : (keeps : Keeps) (xs : List Act) (p k : ℕ) → W keeps xs (unit p) ≡ 1 → W keeps xs (at zeros p k) ≡ k
scaled keeps xs p zero e = ap (W keeps xs) (at_zeros p) ∙ weight_zero keeps xs
scaled keeps xs p (suc k) e =
    let more : W keeps xs (at zeros p (1 + k)) ≡ W keeps xs (unit p) + W keeps xs (at zeros p k) = ap (W keeps xs) (at_add zeros zeros p 1 k) ∙ weight_add keeps xs (unit p) (at zeros p k) in
    let rest = scaled keeps xs p k e in
    ap (λ z. W keeps xs (at zeros p z)) (let z : suc k ≡ 1 + k = omega arith in z) ∙ (let z : W keeps xs (at zeros p (1 + k)) ≡ suc k = omega (arith, more, rest, e) in z)

-- ---- a node's tree stands as often as the node is used

-- a computed node without a temporary is used once; one with a temporary is computed
abbrev pub IsThrift : Parts → Option Temporary → ℕ → Type 0
IsThrift x None c = is_computed x ≡ true → c ≡ 1
IsThrift x (Some t) c = is_computed x ≡ true

abbrev pub AreThrifty : Keeps → List Act → Type 0
AreThrifty keeps [] = Unit {0}
AreThrifty keeps (Made n x ∷ as') = IsThrift x (keeps n) (counts as' n) × AreThrifty keeps as'
AreThrifty keeps (Acts x ∷ as') = AreThrifty keeps as'

kids_unit : (k : Kids) (p : ℕ) → sum_kids k (unit p) ≡ in_kids k p
kids_unit Zero p = refl
kids_unit (One a) p = unit_hits p a
kids_unit (Two a c) p = let x = unit_hits p a in let y = unit_hits p c in omega (arith, x, y)

kids_zero : (k : Kids) → sum_kids k zeros ≡ 0
kids_zero Zero = refl
kids_zero (One a) = refl
kids_zero (Two a c) = refl

or_left : (a b : Bool) → (a || b) ≡ false → a ≡ false
or_left true b h = absurd (true≢false h)
or_left false b h = refl

plain_kids : (x : Parts) (p : ℕ) → is_computed x ≡ false → in_kids x.kids p ≡ 0
plain_kids x p e = by x.kids (or_left (has_kids x.kids) (not (is_leaf x.operator.op)) e)
  where
    by : (k : Kids) → has_kids k ≡ false → in_kids k p ≡ 0
    by Zero h = refl
    by (One a) h = absurd (true≢false h)
    by (Two a c) h = absurd (true≢false h)

not_later : (made : ℕ → Bool) (n p : ℕ) → made p ≡ true → made n ≡ false → n ≡ p → ⊥
not_later made n p is fresh e = true≢false (sym is ∙ ap made (sym e) ∙ fresh)

still : (made : ℕ → Bool) (n m : ℕ) → made m ≡ true → at made n true m ≡ true
still made n m h = ⊎_elim (λ e. ap (at made n true) e ∙ at_new made n true) (λ ne. at_old made n true m ne ∙ h) (cases_eq m n)

copies : (keeps : Keeps) (xs : List Act) (made : ℕ → Bool) (p : ℕ) → made p ≡ true → AreOnce xs made → AreThrifty keeps xs → W keeps xs (unit p) ≡ counts xs p
copies keeps [] made p is once th = refl
copies keeps (Made n x ∷ as') made p is once th =
    by (is_computed x) (keeps n) refl th.0 (not_later made n p is once.0)
    (copies keeps as' (at made n true) p (still made n p is) once.1 th.1) (copies keeps as' (at made n true) n (at_new made n true) once.1 th.1)
  where
    by : (b : Bool) (o : Option Temporary) → is_computed x ≡ b → IsThrift x o (counts as' n) → (n ≡ p → ⊥) → W keeps as' (unit p) ≡ counts as' p → W keeps as' (unit n) ≡ counts as' n
        → weighed_by o (if b then 0 + sum_kids x.kids (unit p) else 0) (λ g. W keeps as' (at (unit p) n g)) ≡ in_kids x.kids p + counts as' p
    by false None e t ne old own = let z = plain_kids x p e in let s : W keeps as' (at (unit p) n 0) ≡ W keeps as' (unit p) = ap (W keeps as') (same_at p n ne) in omega (arith, z, s, old)
    by false (Some y) e t ne old own = absurd (true≢false (sym t ∙ e))
    by true (Some y) e t ne old own = let k = kids_unit x.kids p in let s : W keeps as' (at (unit p) n 0) ≡ W keeps as' (unit p) = ap (W keeps as') (same_at p n ne) in omega (arith, k, s, old)
    by true None e t ne old own =
        let v = 0 + sum_kids x.kids (unit p) in
        let k = kids_unit x.kids p in
        let s : W keeps as' (at (unit p) n v) ≡ W keeps as' (unit p) + W keeps as' (at zeros n v) = ap (W keeps as') (apart_at p n v ne) ∙ weight_add keeps as' (unit p) (at zeros n v) in
        let c = scaled keeps as' n v (own ∙ t e) in
        omega (arith, k, s, c, old)
copies keeps (Acts x ∷ as') made p is once th = let a = kids_unit x.kids p in let b = copies keeps as' made p is once th in omega (arith, a, b)

-- a node isn't computed where it isn't made
later : (keeps : Keeps) (xs : List Act) (made : ℕ → Bool) (m : ℕ) (f : ℕ → ℕ) → made m ≡ true → AreOnce xs made → weight (hits m) keeps xs f ≡ W keeps xs f
later keeps [] made m f is once = refl
later keeps (Made n x ∷ as') made m f is once =
    by (keeps n) (is_computed x) (miss m n (λ e. not_later made n m is once.0 (sym e))) (λ g. later keeps as' (at made n true) m (at f n g) (still made n m is) once.1)
  where
    by : (o : Option Temporary) (b : Bool) → hits m n ≡ 0 → ((g : ℕ) → weight (hits m) keeps as' (at f n g) ≡ W keeps as' (at f n g))
        → weighed_by o (if b then hits m n + sum_kids x.kids f else 0) (λ g. weight (hits m) keeps as' (at f n g)) ≡ weighed_by o (if b then 0 + sum_kids x.kids f else 0) (λ g. W keeps as' (at f n g))
    by None true e go = ap (λ z. weight (hits m) keeps as' (at f n (z + sum_kids x.kids f))) e ∙ go (0 + sum_kids x.kids f)
    by None false e go = go 0
    by (Some y) true e go = let a = go 0 in omega (arith, e, a)
    by (Some y) false e go = let a = go 0 in omega (arith, a)
later keeps (Acts x ∷ as') made m f is once = let a = later keeps as' made m f is once in omega (arith, a)

times_here : (m n : ℕ) (x : Parts) (as' : List Act) → m ≡ n → times_computed (Made n x ∷ as') m ≡ (if is_computed x then 1 else 0)
times_here m n x as' e = ap (λ b. if b then (if is_computed x then 1 else 0) else times_computed as' m) (eq-eqb m n e)

times_not : (m n : ℕ) (x : Parts) (as' : List Act) → (m ≡ n → ⊥) → times_computed (Made n x ∷ as') m ≡ times_computed as' m
times_not m n x as' ne = ap (λ b. if b then (if is_computed x then 1 else 0) else times_computed as' m) (ne_eqb m n ne)

once_from : (keeps : Keeps) (m : ℕ) (xs : List Act) (made : ℕ → Bool) → AreOnce xs made → AreThrifty keeps xs → weight (hits m) keeps xs zeros ≡ times_computed xs m
once_from keeps m [] made once th = refl
once_from keeps m (Made n x ∷ as') made once th = ⊎_elim
    (λ e. here (is_computed x) (keeps n) refl th.0 (ap (λ z. hits z n) e ∙ hit n)
    (λ g. later keeps as' (at made n true) m (at zeros n g) (ap (at made n true) e ∙ at_new made n true) once.1)
    (copies keeps as' (at made n true) n (at_new made n true) once.1 th.1)
    ∙ sym (times_here m n x as' e))
    (λ ne. other (is_computed x) (keeps n) (miss m n ne) (once_from keeps m as' (at made n true) once.1 th.1) ∙ sym (times_not m n x as' ne))
    (cases_eq m n)
  where
    here : (b : Bool) (o : Option Temporary) → is_computed x ≡ b → IsThrift x o (counts as' n) → hits m n ≡ 1 → ((g : ℕ) → weight (hits m) keeps as' (at zeros n g) ≡ W keeps as' (at zeros n g)) → W keeps as' (unit n) ≡ counts as' n
        → weighed_by o (if b then hits m n + sum_kids x.kids zeros else 0) (λ g. weight (hits m) keeps as' (at zeros n g)) ≡ (if b then 1 else 0)
    here false None e t h go own = go 0 ∙ ap (W keeps as') (at_zeros n) ∙ weight_zero keeps as'
    here false (Some y) e t h go own = absurd (true≢false (sym t ∙ e))
    here true None e t h go own = ap (λ z. weight (hits m) keeps as' (at zeros n z)) (let k = kids_zero x.kids in let z : hits m n + sum_kids x.kids zeros ≡ 1 = omega (arith, h, k) in z) ∙ go 1 ∙ own ∙ t e
    here true (Some y) e t h go own = let k = kids_zero x.kids in let z : weight (hits m) keeps as' (at zeros n 0) ≡ 0 = go 0 ∙ ap (W keeps as') (at_zeros n) ∙ weight_zero keeps as' in omega (arith, h, k, z)

    other : (b : Bool) (o : Option Temporary) → hits m n ≡ 0 → weight (hits m) keeps as' zeros ≡ times_computed as' m
        → weighed_by o (if b then hits m n + sum_kids x.kids zeros else 0) (λ g. weight (hits m) keeps as' (at zeros n g)) ≡ times_computed as' m
    other b o h rest = by o (node b)
      where
        node : (b : Bool) → (if b then hits m n + sum_kids x.kids zeros else 0) ≡ 0
        node true = let k = kids_zero x.kids in omega (arith, h, k)
        node false = refl

        none : weight (hits m) keeps as' (at zeros n 0) ≡ times_computed as' m
        none = ap (weight (hits m) keeps as') (at_zeros n) ∙ rest

        by : (o : Option Temporary) → (if b then hits m n + sum_kids x.kids zeros else 0) ≡ 0 → weighed_by o (if b then hits m n + sum_kids x.kids zeros else 0) (λ g. weight (hits m) keeps as' (at zeros n g)) ≡ times_computed as' m
        by None z = ap (λ g. weight (hits m) keeps as' (at zeros n g)) z ∙ none
        by (Some y) z = let a = none in omega (arith, z, a)
once_from keeps m (Acts x ∷ as') made once th = let a = kids_zero x.kids in let b = once_from keeps m as' made once th in omega (arith, a, b)

pub computed_once : (keeps : Keeps) (xs : List Act) (made : ℕ → Bool) (tree : Tree) (m : ℕ) → AreOnce xs made → AreThrifty keeps xs → all_places m (marked keeps xs (λ q. Plain tree)) ≡ times_computed xs m
computed_once keeps xs made tree m once th = places_weigh m keeps xs (λ q. Plain tree) ∙ once_from keeps m xs made once th
