-- What a block does, each act behind those that make its operands.
use Rattle.std.proofs.Common.{◌≡◌, ⊎_elim, ℕ, suc, ◌<◌, ◌≤◌, ◌+◌, ◌==◌, Bool, true, false, true≢false, List, [], ◌∷◌, ◌++◌, inl, inr, refl, sym, ap, ◌∙◌, arith, subst}
use Rattle.std.specs.Prelude.{◌⊎◌, ◌||◌, if◌then◌else◌, reverse}
use Rattle.std.proofs.lemmas.Bool.{cases_eq, eq-eqb, eqb-true}
use Rattle.std.proofs.lemmas.Grind.{reverse_onto}
use Rattle.dag_forest.specs.declared.entry.Entry.{Entry}
use Rattle.dag_forest.specs.declared.entry.Entry.TheVariants.{Value, Root}
use Rattle.dag_forest.specs.declared.kids.Kids.{Kids}
use Rattle.dag_forest.specs.declared.kids.Kids.TheVariants.{Zero, One, Two}
use Rattle.dag_forest.specs.declared.parts.Parts.{Parts}
use Rattle.dag_forest.specs.Entries.{AreBelow, is_call}
use Rattle.dag_forest.specs.Tally.{AreFormed, node_count}
use Rattle.dag_forest.specs.Schedules.{Act, Made, Acts, Parted, with_below, with_other, is_in, has_kid_in, kids_list, number_of, numbers, waits, kids_of, parted, reversed, in_turn, all_uses, used, acts_of}
use Rattle.dag_forest.specs.Choice.{IsLow}

-- ---- operands

abbrev pub AllKids : (ℕ → Type 0) → Kids → Type 0
AllKids P Zero = Unit {0}
AllKids P (One a) = P a
AllKids P (Two a c) = P a × P c

pub kids_map : (P Q : ℕ → Type 0) (k : Kids) → ((m : ℕ) → P m → Q m) → AllKids P k → AllKids Q k
kids_map P Q Zero f h = tt
kids_map P Q (One a) f h = f a h
kids_map P Q (Two a c) f h = (f a h.0, f c h.1)

pub kids_below : (n : ℕ) (k : Kids) → AreBelow n k → AllKids (λ m. m < n) k
kids_below n Zero h = tt
kids_below n (One a) h = h
kids_below n (Two a c) h = (h.0, h.1)

pub below_more : (n p : ℕ) (k : Kids) → n ≤ p → AreBelow n k → AreBelow p k
below_more n p Zero l h = tt
below_more n p (One a) l h = omega (arith, l, h)
below_more n p (Two a c) l h = (omega (arith, l, h.0), omega (arith, l, h.1))

-- ---- numbers

abbrev Within : ℕ → List ℕ → Type 0
Within m [] = ⊥
Within m (n ∷ ns) = (m ≡ n) ⊎ Within m ns

-- a node that is made by one of the acts
abbrev pub In : ℕ → List Act → Type 0
In m [] = ⊥
In m (a ∷ as') = (m ≡ number_of a) ⊎ In m as'

or_true : (a b : Bool) → (a || b) ≡ true → (a ≡ true) ⊎ (b ≡ true)
or_true true b h = inl refl
or_true false b h = inr h

or_left : (a b : Bool) → a ≡ true → (a || b) ≡ true
or_left a b h = ap (λ z. z || b) h

or_right : (a b : Bool) → b ≡ true → (a || b) ≡ true
or_right true b h = refl
or_right false b h = h

or_false : (a b : Bool) → (a || b) ≡ false → (a ≡ false) × (b ≡ false)
or_false true b h = absurd (true≢false h)
or_false false b h = (refl, h)

in_from : (m : ℕ) (ns : List ℕ) → is_in m ns ≡ true → Within m ns
in_from m [] h = absurd (true≢false (sym h))
in_from m (n ∷ ns) h = ⊎_elim (λ e. inl (eqb-true m n e)) (λ e. inr (in_from m ns e)) (or_true (m == n) (is_in m ns) h)

in_to : (m : ℕ) (ns : List ℕ) → Within m ns → is_in m ns ≡ true
in_to m [] h = absurd h
in_to m (n ∷ ns) h = ⊎_elim (λ e. or_left (m == n) (is_in m ns) (eq-eqb m n e)) (λ e. or_right (m == n) (is_in m ns) (in_to m ns e)) h

within_numbers : (m : ℕ) (xs : List Act) → In m xs → Within m (numbers xs)
within_numbers m [] h = h
within_numbers m (a ∷ as') h = ⊎_elim (λ e. inl e) (λ e. inr (within_numbers m as' e)) h

within_left : (m : ℕ) (ns ms : List ℕ) → Within m ns → Within m (ns ++ ms)
within_left m [] ms h = absurd h
within_left m (n ∷ ns) ms h = ⊎_elim (λ e. inl e) (λ e. inr (within_left m ns ms e)) h

within_right : (m : ℕ) (ns ms : List ℕ) → Within m ms → Within m (ns ++ ms)
within_right m [] ms h = h
within_right m (n ∷ ns) ms h = inr (within_right m ns ms h)

in_cases : (m : ℕ) (xs ys : List Act) → In m (xs ++ ys) → In m xs ⊎ In m ys
in_cases m [] ys h = inr h
in_cases m (a ∷ as') ys h = ⊎_elim (λ e. inl (inl e)) (λ e. ⊎_elim (λ d. inl (inr d)) (λ d. inr d) (in_cases m as' ys e)) h

in_left : (m : ℕ) (xs ys : List Act) → In m xs → In m (xs ++ ys)
in_left m [] ys h = absurd h
in_left m (a ∷ as') ys h = ⊎_elim (λ e. inl e) (λ e. inr (in_left m as' ys e)) h

in_right : (m : ℕ) (xs ys : List Act) → In m ys → In m (xs ++ ys)
in_right m [] ys h = h
in_right m (a ∷ as') ys h = inr (in_right m as' ys h)

in_reversed : (m : ℕ) (xs : List Act) → In m xs → In m (reversed xs)
in_reversed m [] h = h
in_reversed m (a ∷ as') h = ⊎_elim (λ e. in_right m (reversed as') (a ∷ []) (inl e)) (λ e. in_left m (reversed as') (a ∷ []) (in_reversed m as' e)) h

in_kids : (ns : List ℕ) (P : ℕ → Type 0) (k : Kids) → ((m : ℕ) → Within m (kids_list k) → P m) → AllKids P k
in_kids ns P Zero f = tt
in_kids ns P (One a) f = f a (inl refl)
in_kids ns P (Two a c) f = (f a (inl refl), f c (inr (inl refl)))

pub reversed_snoc : (xs : List Act) (a : Act) → reversed (xs ++ a ∷ []) ≡ a ∷ reversed xs
reversed_snoc [] a = refl
reversed_snoc (x ∷ xs) a = ap (λ z. z ++ x ∷ []) (reversed_snoc xs a)

pub reversed_is : (xs : List Act) → reversed xs ≡ reverse xs
reversed_is [] = refl
reversed_is (x ∷ xs) = ap (λ z. z ++ x ∷ []) (reversed_is xs) ∙ sym (reverse_onto xs x [])

-- ---- acts in order

-- each act's operands are made before, where these are made already
abbrev pub AreReady : List Act → (ℕ → Type 0) → Type 0
AreReady [] P = Unit {0}
AreReady (Made n x ∷ as') P = AllKids P x.kids × AreReady as' (λ m. P m ⊎ (m ≡ n))
AreReady (Acts x ∷ as') P = AllKids P x.kids × AreReady as' P

pub ready_map : (xs : List Act) (P Q : ℕ → Type 0) → ((m : ℕ) → P m → Q m) → AreReady xs P → AreReady xs Q
ready_map [] P Q f h = tt
ready_map (Made n x ∷ as') P Q f h = (kids_map P Q x.kids f h.0, ready_map as' (λ m. P m ⊎ (m ≡ n)) (λ m. Q m ⊎ (m ≡ n)) (λ m. ⊎_elim (λ e. inl (f m e)) (λ e. inr e)) h.1)
ready_map (Acts x ∷ as') P Q f h = (kids_map P Q x.kids f h.0, ready_map as' P Q f h.1)

-- nodes alone
abbrev AreNodes : List Act → Type 0
AreNodes [] = Unit {0}
AreNodes (Made n x ∷ as') = AreNodes as'
AreNodes (Acts x ∷ as') = ⊥

nodes_snoc : (xs : List Act) (n : ℕ) (x : Parts) → AreNodes xs → AreNodes (xs ++ Made n x ∷ [])
nodes_snoc [] n x h = tt
nodes_snoc (Made m y ∷ as') n x h = nodes_snoc as' n x h
nodes_snoc (Acts y ∷ as') n x h = absurd h

ready_append : (xs ys : List Act) (P : ℕ → Type 0) → AreNodes xs → AreReady xs P → AreReady ys (λ m. P m ⊎ In m xs) → AreReady (xs ++ ys) P
ready_append [] ys P ns h g = ready_map ys (λ m. P m ⊎ In m []) P (λ m. ⊎_elim (λ e. e) (λ e. absurd e)) g
ready_append (Made n x ∷ as') ys P ns h g = (
  h.0,
  ready_append as' ys (λ m. P m ⊎ (m ≡ n)) ns h.1 (ready_map ys (λ m. P m ⊎ ((m ≡ n) ⊎ In m as')) (λ m. (P m ⊎ (m ≡ n)) ⊎ In m as')
      (λ m. ⊎_elim (λ e. inl (inl e)) (λ e. ⊎_elim (λ d. inl (inr d)) (λ d. inr d) e)) g),
)
ready_append (Acts x ∷ as') ys P ns h g = absurd ns

-- nodes that wait, the last first: their operands are made, or wait before them
abbrev Waiting : List Act → (ℕ → Type 0) → Type 0
Waiting [] P = Unit {0}
Waiting (Made n x ∷ as') P = AllKids (λ m. P m ⊎ In m as') x.kids × Waiting as' P
Waiting (Acts x ∷ as') P = ⊥

waiting_map : (xs : List Act) (P Q : ℕ → Type 0) → ((m : ℕ) → P m → Q m) → Waiting xs P → Waiting xs Q
waiting_map [] P Q f h = tt
waiting_map (Made n x ∷ as') P Q f h = (kids_map (λ m. P m ⊎ In m as') (λ m. Q m ⊎ In m as') x.kids (λ m. ⊎_elim (λ e. inl (f m e)) (λ e. inr e)) h.0, waiting_map as' P Q f h.1)
waiting_map (Acts x ∷ as') P Q f h = absurd h

pub record ArePartedSo (ns : List ℕ) (xs : List Act) (P : ℕ → Type 0) (p : Parted) : Type 0 where
  found : (m : ℕ) → Within m ns → In m xs → In m p.below
  all : (m : ℕ) → In m xs → In m p.below ⊎ In m p.others
  nodes : AreNodes p.below
  ready : AreReady p.below P
  waiting : Waiting (reversed p.others) (λ m. P m ⊎ In m p.below)

parted_below : (ns : List ℕ) (n : ℕ) (x : Parts) (xs : List Act) (P : ℕ → Type 0) (p : Parted) → AllKids (λ m. P m ⊎ In m xs) x.kids → ArePartedSo (ns ++ kids_list x.kids) xs P p → ArePartedSo ns (Made n x ∷ xs) P (with_below (Made n x) p)
parted_below ns n x xs P p kids h = record {
  found = λ m w i. ⊎_elim (λ e. in_right m p.below (Made n x ∷ []) (inl e)) (λ e. in_left m p.below (Made n x ∷ []) (h.found m (within_left m ns (kids_list x.kids) w) e)) i;
  all = λ m i. ⊎_elim (λ e. inl (in_right m p.below (Made n x ∷ []) (inl e))) (λ e. ⊎_elim (λ d. inl (in_left m p.below (Made n x ∷ []) d)) (λ d. inr d) (h.all m e)) i;
  nodes = nodes_snoc p.below n x h.nodes;
  ready = ready_append p.below (Made n x ∷ []) P h.nodes h.ready (found_kids x.kids (λ m w. within_right m ns (kids_list x.kids) w) kids, tt);
  waiting = waiting_map (reversed p.others) (λ m. P m ⊎ In m p.below) (λ m. P m ⊎ In m (p.below ++ Made n x ∷ [])) (λ m. ⊎_elim (λ e. inl e) (λ e. inr (in_left m p.below (Made n x ∷ []) e))) h.waiting;
}
  where
    found_kids : (k : Kids) → ((m : ℕ) → Within m (kids_list k) → Within m (ns ++ kids_list x.kids)) → AllKids (λ m. P m ⊎ In m xs) k → AllKids (λ m. P m ⊎ In m p.below) k
    found_kids Zero w g = tt
    found_kids (One a) w g = ⊎_elim (λ e. inl e) (λ e. inr (h.found a (w a (inl refl)) e)) g
    found_kids (Two a c) w g = (⊎_elim (λ e. inl e) (λ e. inr (h.found a (w a (inl refl)) e)) g.0, ⊎_elim (λ e. inl e) (λ e. inr (h.found c (w c (inr (inl refl))) e)) g.1)

parted_other : (ns : List ℕ) (n : ℕ) (x : Parts) (xs : List Act) (P : ℕ → Type 0) (p : Parted) → is_in n ns ≡ false → AllKids (λ m. P m ⊎ In m xs) x.kids → ArePartedSo ns xs P p → ArePartedSo ns (Made n x ∷ xs) P (with_other (Made n x) p)
parted_other ns n x xs P p out kids h = record {
  found = λ m w i. ⊎_elim (λ e. absurd (true≢false (sym (in_to n ns (subst (λ q. Within q ns) e w)) ∙ out))) (λ e. h.found m w e) i;
  all = λ m i. ⊎_elim (λ e. inr (in_right m p.others (Made n x ∷ []) (inl e))) (λ e. ⊎_elim (λ d. inl d) (λ d. inr (in_left m p.others (Made n x ∷ []) d)) (h.all m e)) i;
  nodes = h.nodes;
  ready = h.ready;
  waiting = subst (λ q. Waiting q (λ m. P m ⊎ In m p.below)) (sym (reversed_snoc p.others (Made n x))) (
    kids_map (λ m. P m ⊎ In m xs) (λ m. (P m ⊎ In m p.below) ⊎ In m (reversed p.others)) x.kids
        (λ m. ⊎_elim (λ e. inl (inl e)) (λ e. ⊎_elim (λ d. inl (inr d)) (λ d. inr (in_reversed m p.others d)) (h.all m e))) kids,
    h.waiting,
  );
}

pub are_parted : (ns : List ℕ) (xs : List Act) (P : ℕ → Type 0) → Waiting xs P → ArePartedSo ns xs P (parted ns xs)
are_parted ns [] P h = record { found = λ m w i. i; all = λ m i. absurd i; nodes = tt; ready = tt; waiting = tt }
are_parted ns (Made n x ∷ as') P h = by (is_in n ns) refl (are_parted (ns ++ kids_list x.kids) as' P h.1) (are_parted ns as' P h.1)
  where
    by : (b : Bool) → is_in n ns ≡ b → ArePartedSo (ns ++ kids_list x.kids) as' P (parted (ns ++ kids_list x.kids) as') → ArePartedSo ns as' P (parted ns as') → ArePartedSo ns (Made n x ∷ as') P (if b then with_below (Made n x) (parted (ns ++ kids_list x.kids) as') else with_other (Made n x) (parted ns as'))
    by true e g k = parted_below ns n x as' P (parted (ns ++ kids_list x.kids) as') h.0 g
    by false e g k = parted_other ns n x as' P (parted ns as') e h.0 k
are_parted ns (Acts x ∷ as') P h = absurd h

-- a node that doesn't wait has no operand that waits
has_none : (k : Kids) (pending : List Act) (P : ℕ → Type 0) → has_kid_in k (numbers pending) ≡ false → AllKids (λ m. P m ⊎ In m pending) k → AllKids P k
has_none Zero pending P out h = tt
has_none (One a) pending P out h = ⊎_elim (λ e. e) (λ e. absurd (true≢false (sym (in_to a (numbers pending) (within_numbers a pending e)) ∙ out))) h
has_none (Two a c) pending P out h =
    let o = or_false (is_in a (numbers pending)) (is_in c (numbers pending)) out in (
      ⊎_elim (λ e. e) (λ e. absurd (true≢false (sym (in_to a (numbers pending) (within_numbers a pending e)) ∙ o.0))) h.0,
      ⊎_elim (λ e. e) (λ e. absurd (true≢false (sym (in_to c (numbers pending) (within_numbers c pending e)) ∙ o.1))) h.1,
    )

turn_ready : (es : List Entry) (n : ℕ) (pending : List Act) (P : ℕ → Type 0) → AreFormed es n → Waiting (reversed pending) P → ((m : ℕ) → m < n → P m ⊎ In m pending) → AreReady (in_turn es n pending) P
turn_ready [] n pending P formed wait known = tt
turn_ready (Value x ∷ es) n pending P formed wait known =
    let kids : AllKids (λ m. P m ⊎ In m pending) x.kids = kids_map (λ m. m < n) (λ m. P m ⊎ In m pending) x.kids known (kids_below n x.kids formed.0) in
    by (waits x pending) refl kids
    (turn_ready es (suc n) (pending ++ Made n x ∷ []) P formed.1
    (subst (λ q. Waiting q P) (sym (reversed_snoc pending (Made n x)))
    (kids_map (λ m. P m ⊎ In m pending) (λ m. P m ⊎ In m (reversed pending)) x.kids (λ m. ⊎_elim (λ d. inl d) (λ d. inr (in_reversed m pending d))) kids, wait))
    (λ m l. ⊎_elim (λ q. inr (in_right m pending (Made n x ∷ []) (inl q))) (λ q. ⊎_elim (λ d. inl d) (λ d. inr (in_left m pending (Made n x ∷ []) d)) (known m (omega (arith, l, q)))) (cases_eq m n)))
    (turn_ready es (suc n) pending (λ m. P m ⊎ (m ≡ n)) formed.1 (waiting_map (reversed pending) P (λ m. P m ⊎ (m ≡ n)) (λ m d. inl d) wait)
    (λ m l. ⊎_elim (λ q. inl (inr q)) (λ q. ⊎_elim (λ d. inl (inl d)) (λ d. inr d) (known m (omega (arith, l, q)))) (cases_eq m n)))
  where
    by : (b : Bool) → waits x pending ≡ b → AllKids (λ m. P m ⊎ In m pending) x.kids → AreReady (in_turn es (suc n) (pending ++ Made n x ∷ [])) P → AreReady (in_turn es (suc n) pending) (λ m. P m ⊎ (m ≡ n)) → AreReady (if b then in_turn es (suc n) (pending ++ Made n x ∷ []) else Made n x ∷ in_turn es (suc n) pending) P
    by true e kids g k = g
    by false e kids g k = (has_none x.kids pending P (or_false (is_call x.operator.op) (has_kid_in x.kids (numbers pending)) e).1 kids, k)
turn_ready (Root x ∷ es) n pending P formed wait known =
    let p = parted (kids_list x.kids) (reversed pending) in
    let h = are_parted (kids_list x.kids) (reversed pending) P wait in
    let Q : ℕ → Type 0 = λ m. P m ⊎ In m p.below in
    ready_append p.below (Acts x ∷ in_turn es n p.others) P h.nodes h.ready (
      root_kids x.kids (λ m w. w) (kids_below n x.kids formed.0),
      turn_ready es n p.others Q formed.1 h.waiting
          (λ m l. ⊎_elim (λ d. inl (inl d)) (λ d. ⊎_elim (λ q. inl (inr q)) (λ q. inr q) (h.all m (in_reversed m pending d))) (known m l)),
    )
  where
    root_kids : (k : Kids) → ((m : ℕ) → Within m (kids_list k) → Within m (kids_list x.kids)) → AllKids (λ m. m < n) k → AllKids (λ m. P m ⊎ In m (parted (kids_list x.kids) (reversed pending)).below) k
    root_kids Zero w g = tt
    root_kids (One a) w g = one a (w a (inl refl)) g
      where
        one : (a : ℕ) → Within a (kids_list x.kids) → a < n → P a ⊎ In a (parted (kids_list x.kids) (reversed pending)).below
        one a i l = ⊎_elim (λ d. inl d) (λ d. inr ((are_parted (kids_list x.kids) (reversed pending) P wait).found a i (in_reversed a pending d))) (known a l)
    root_kids (Two a c) w g = (one a (w a (inl refl)) g.0, one c (w c (inr (inl refl))) g.1)
      where
        one : (a : ℕ) → Within a (kids_list x.kids) → a < n → P a ⊎ In a (parted (kids_list x.kids) (reversed pending)).below
        one a i l = ⊎_elim (λ d. inl d) (λ d. inr ((are_parted (kids_list x.kids) (reversed pending) P wait).found a i (in_reversed a pending d))) (known a l)

-- ---- without the unused

uses_left : (m : ℕ) (ns ms : List ℕ) → is_in m (ns ++ ms) ≡ false → (is_in m ns ≡ false) × (is_in m ms ≡ false)
uses_left m [] ms h = (refl, h)
uses_left m (n ∷ ns) ms h = let o = or_false (m == n) (is_in m (ns ++ ms)) h in let r = uses_left m ns ms o.1 in (ap (λ b. b || is_in m ns) o.0 ∙ r.0, r.1)

kids_but : (n : ℕ) (k : Kids) (P Q : ℕ → Type 0) → ((m : ℕ) → Q m → P m ⊎ (m ≡ n)) → is_in n (kids_list k) ≡ false → AllKids Q k → AllKids P k
kids_but n k P Q f out h = by k (λ m w e. true≢false (sym (in_to n (kids_list k) (subst (λ q. Within q (kids_list k)) e w)) ∙ out)) h
  where
    by : (k : Kids) → ((m : ℕ) → Within m (kids_list k) → m ≡ n → ⊥) → AllKids Q k → AllKids P k
    by Zero o h = tt
    by (One a) o h = ⊎_elim (λ e. e) (λ e. absurd (o a (inl refl) e)) (f a h)
    by (Two a c) o h = (⊎_elim (λ e. e) (λ e. absurd (o a (inl refl) e)) (f a h.0), ⊎_elim (λ e. e) (λ e. absurd (o c (inr (inl refl)) e)) (f c h.1))

ready_but : (xs : List Act) (n : ℕ) (P Q : ℕ → Type 0) → ((m : ℕ) → Q m → P m ⊎ (m ≡ n)) → is_in n (all_uses xs) ≡ false → AreReady xs Q → AreReady xs P
ready_but [] n P Q f out h = tt
ready_but (Made p x ∷ as') n P Q f out h =
    let o = uses_left n (kids_list x.kids) (all_uses as') out in
    (kids_but n x.kids P Q f o.0 h.0, ready_but as' n (λ m. P m ⊎ (m ≡ p)) (λ m. Q m ⊎ (m ≡ p)) (λ m. ⊎_elim (λ e. ⊎_elim (λ d. inl (inl d)) (λ d. inr d) (f m e)) (λ e. inl (inr e))) o.1 h.1)
ready_but (Acts x ∷ as') n P Q f out h =
    let o = uses_left n (kids_list x.kids) (all_uses as') out in
    (kids_but n x.kids P Q f o.0 h.0, ready_but as' n P Q f o.1 h.1)

used_ready : (xs : List Act) (P : ℕ → Type 0) → AreReady xs P → AreReady (used xs) P
used_ready [] P h = tt
used_ready (Made n x ∷ as') P h = by (is_in n (all_uses (used as'))) refl (used_ready as' (λ m. P m ⊎ (m ≡ n)) h.1)
  where
    by : (b : Bool) → is_in n (all_uses (used as')) ≡ b → AreReady (used as') (λ m. P m ⊎ (m ≡ n)) → AreReady (if b then Made n x ∷ used as' else used as') P
    by true e g = (h.0, g)
    by false e g = ready_but (used as') n P (λ m. P m ⊎ (m ≡ n)) (λ m d. d) e g
used_ready (Acts x ∷ as') P h = (h.0, used_ready as' P h.1)

pub acts_are_ready : (entries : List Entry) (P : ℕ → Type 0) → AreFormed entries 0 → AreReady (acts_of entries) P
acts_are_ready entries P formed = used_ready (in_turn entries 0 []) P (turn_ready entries 0 [] P formed tt (λ m l. absurd (omega (arith, l))))

-- ---- numbers below that of the nodes

abbrev pub AllLow : ℕ → List Act → Type 0
AllLow k [] = Unit {0}
AllLow k (a ∷ as') = IsLow k a × AllLow k as'

low_append : (k : ℕ) (xs ys : List Act) → AllLow k xs → AllLow k ys → AllLow k (xs ++ ys)
low_append k [] ys h g = g
low_append k (a ∷ as') ys h g = (h.0, low_append k as' ys h.1 g)

pub low_reversed : (k : ℕ) (xs : List Act) → AllLow k xs → AllLow k (reversed xs)
low_reversed k [] h = tt
low_reversed k (a ∷ as') h = low_append k (reversed as') (a ∷ []) (low_reversed k as' h.1) (h.0, tt)

low_parted : (k : ℕ) (ns : List ℕ) (xs : List Act) → AllLow k xs → AllLow k (parted ns xs).below × AllLow k (parted ns xs).others
low_parted k ns [] h = (tt, tt)
low_parted k ns (a ∷ as') h = by (is_in (number_of a) ns) (low_parted k (ns ++ kids_list (kids_of a)) as' h.1) (low_parted k ns as' h.1)
  where
    by : (b : Bool) → AllLow k (parted (ns ++ kids_list (kids_of a)) as').below × AllLow k (parted (ns ++ kids_list (kids_of a)) as').others → AllLow k (parted ns as').below × AllLow k (parted ns as').others
        → AllLow k (if b then with_below a (parted (ns ++ kids_list (kids_of a)) as') else with_other a (parted ns as')).below × AllLow k (if b then with_below a (parted (ns ++ kids_list (kids_of a)) as') else with_other a (parted ns as')).others
    by true r q = (low_append k (parted (ns ++ kids_list (kids_of a)) as').below (a ∷ []) r.0 (h.0, tt), r.1)
    by false q r = (r.0, low_append k (parted ns as').others (a ∷ []) r.1 (h.0, tt))

pub low_in_turn : (k : ℕ) (es : List Entry) (n : ℕ) (pending : List Act) → AreFormed es n → n + node_count es ≤ k → AllLow k pending → AllLow k (in_turn es n pending)
low_in_turn k [] n pending formed l h = tt
low_in_turn k (Value x ∷ es) n pending formed l h =
    let own : IsLow k (Made n x) = (omega (arith, l), formed.0) in
    by (waits x pending) own (low_in_turn k es (suc n) (pending ++ Made n x ∷ []) formed.1 (omega (arith, l)) (low_append k pending (Made n x ∷ []) h (own, tt))) (low_in_turn k es (suc n) pending formed.1 (omega (arith, l)) h)
  where
    by : (b : Bool) → IsLow k (Made n x) → AllLow k (in_turn es (suc n) (pending ++ Made n x ∷ [])) → AllLow k (in_turn es (suc n) pending) → AllLow k (if b then in_turn es (suc n) (pending ++ Made n x ∷ []) else Made n x ∷ in_turn es (suc n) pending)
    by true own g q = g
    by false own g q = (own, q)
low_in_turn k (Root x ∷ es) n pending formed l h =
    let r = low_parted k (kids_list x.kids) (reversed pending) (low_reversed k pending h) in
    low_append k (parted (kids_list x.kids) (reversed pending)).below (Acts x ∷ in_turn es n (parted (kids_list x.kids) (reversed pending)).others) r.0
    (below_more n k x.kids (omega (arith, l)) formed.0, low_in_turn k es n (parted (kids_list x.kids) (reversed pending)).others formed.1 l r.1)

pub low_used : (k : ℕ) (xs : List Act) → AllLow k xs → AllLow k (used xs)
low_used k [] h = tt
low_used k (Made n x ∷ as') h = by (is_in n (all_uses (used as'))) (low_used k as' h.1)
  where
    by : (b : Bool) → AllLow k (used as') → AllLow k (if b then Made n x ∷ used as' else used as')
    by true g = (h.0, g)
    by false g = g
low_used k (Acts x ∷ as') h = (h.0, low_used k as' h.1)
