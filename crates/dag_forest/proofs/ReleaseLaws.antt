-- Nodes that wait are released by the first root that they stand below.
use Rattle.std.proofs.Common.{◌≡◌, ⊎_elim, ℕ, zero, suc, ◌+◌, ◌<◌, ◌≤◌, ◌==◌, Bool, true, false, true≢false, List, [], ◌∷◌, ◌++◌, length, get_or, replicate, refl, sym, ap, ◌∙◌, arith, subst}
use Rattle.std.specs.Prelude.{◌&&◌, ◌||◌, not, min, nat_le, if◌then◌else◌}
use Rattle.std.proofs.lemmas.Bool.{cases_eq, eq-eqb, eqb-true, ne_eqb}
use Rattle.std.proofs.lemmas.Bool.Decides.{nat_tests}
use Rattle.std.proofs.lemmas.List.{get_or-set_same, get_or-set_other, get_or-replicate, length-append, length-set, length-replicate}
use Rattle.dag_forest.specs.declared.entry.Entry.{Entry}
use Rattle.dag_forest.specs.declared.entry.Entry.TheVariants.{Value, Root}
use Rattle.dag_forest.specs.declared.kids.Kids.{Kids}
use Rattle.dag_forest.specs.declared.kids.Kids.TheVariants.{Zero, One, Two}
use Rattle.dag_forest.specs.declared.parts.Parts.{Parts}
use Rattle.dag_forest.specs.Entries.{AreBelow, is_call}
use Rattle.dag_forest.specs.Tally.{AreFormed, node_count}
use Rattle.dag_forest.specs.Schedules.{Act, Made, Acts, Parted, with_below, with_other, is_in, has_kid_in, kids_list, kids_of, number_of, numbers, waits, parted, reversed, in_turn}
use Rattle.dag_forest.specs.Releases.{root_count, lowered, lowered_kids, first_roots, is_left, has_kid_left, listed, by_lists}
use Rattle.dag_forest.proofs.Ready.{below_more, reversed_snoc}

-- ---- the first roots, as a map

abbrev pick : Bool → ℕ → ℕ → ℕ
pick true r v = min v r
pick false r v = v

-- these stand below a root
abbrev low : ℕ → List ℕ → (ℕ → ℕ) → ℕ → ℕ
low r ns f m = pick (is_in m ns) r (f m)

abbrev firsts : List Entry → ℕ → ℕ → ℕ → ℕ
firsts [] n r m = r
firsts (Value x ∷ es) n r m = low (firsts es (suc n) r n) (kids_list x.kids) (firsts es (suc n) r) m
firsts (Root x ∷ es) n r m = low r (kids_list x.kids) (firsts es n (suc r)) m

pick_least : (b : Bool) (r s v : ℕ) → r ≤ s → r ≤ v → r ≤ pick b s v
pick_least true r s v a c = omega (arith, a, c)
pick_least false r s v a c = c

firsts_least : (es : List Entry) (n r m : ℕ) → r ≤ firsts es n r m
firsts_least [] n r m = omega arith
firsts_least (Value x ∷ es) n r m = pick_least (is_in m (kids_list x.kids)) r (firsts es (suc n) r n) (firsts es (suc n) r m) (firsts_least es (suc n) r n) (firsts_least es (suc n) r m)
firsts_least (Root x ∷ es) n r m = let h = firsts_least es n (suc r) m in pick_least (is_in m (kids_list x.kids)) r r (firsts es n (suc r) m) (omega arith) (omega (arith, h))

-- an operand is no node behind
kids_not_in : (n m : ℕ) (k : Kids) → AreBelow n k → n ≤ m → is_in m (kids_list k) ≡ false
kids_not_in n m Zero h l = refl
kids_not_in n m (One a) h l = rw (ne_eqb m a (λ e. omega (arith, e, h, l))) refl
kids_not_in n m (Two a c) h l = let p = h.0 in let q = h.1 in rw (ne_eqb m a (λ e. omega (arith, e, p, l)), ne_eqb m c (λ e. omega (arith, e, q, l))) refl

low_behind : (n r m : ℕ) (k : Kids) (f : ℕ → ℕ) → AreBelow n k → n ≤ m → low r (kids_list k) f m ≡ f m
low_behind n r m k f h l = ap (λ b. pick b r (f m)) (kids_not_in n m k h l)

-- ---- the lists that are kept tell the same

pub length_lowered : (r : ℕ) (k : Kids) (f : List ℕ) → length (lowered_kids r k f) ≡ length f
length_lowered r Zero f = refl
length_lowered r (One a) f = length-set f a _
length_lowered r (Two a c) f = length-set (lowered r a f) c _ ∙ length-set f a _

pub length_first : (es : List Entry) (n r : ℕ) → length (first_roots es n r) ≡ n + node_count es
length_first [] n r = let h = length-replicate n r in omega (arith, h)
length_first (Value x ∷ es) n r = let a = length_lowered (get_or (first_roots es (suc n) r) n 0) x.kids (first_roots es (suc n) r) in let b = length_first es (suc n) r in omega (arith, a, b)
length_first (Root x ∷ es) n r = let a = length_lowered r x.kids (first_roots es n (suc r)) in let b = length_first es n (suc r) in omega (arith, a, b)

abbrev Tells : List ℕ → (ℕ → ℕ) → Type 0
Tells xs f = (m : ℕ) → m < length xs → get_or xs m 0 ≡ f m

one_tells : (r a : ℕ) (xs : List ℕ) (f : ℕ → ℕ) → a < length xs → Tells xs f → Tells (lowered r a xs) (λ m. pick (m == a) r (f m))
one_tells r a xs f low_ h m l =
    let len = length-set xs a (min (get_or xs a 0) r) in
    let old : m < length xs = omega (arith, l, len) in
    ⊎_elim
    (λ e. ap (λ i. get_or (lowered r a xs) i 0) e ∙ get_or-set_same xs a (min (get_or xs a 0) r) 0 low_ ∙ ap (λ v. min v r) (h a low_) ∙ sym (ap (λ i. pick (i == a) r (f i)) e ∙ ap (λ b. pick b r (f a)) (eq-eqb a a refl)))
    (λ ne. get_or-set_other xs a m (min (get_or xs a 0) r) 0 ne ∙ h m old ∙ sym (ap (λ b. pick b r (f m)) (ne_eqb m a ne)))
    (cases_eq m a)

pick_or : (a b : Bool) (r v : ℕ) → pick b r (pick a r v) ≡ pick (a || b) r v
pick_or true true r v = omega arith
pick_or true false r v = refl
pick_or false b r v = refl

or_false_right : (a : Bool) → a ≡ (a || false)
or_false_right true = refl
or_false_right false = refl

kids_tell : (r : ℕ) (k : Kids) (xs : List ℕ) (f : ℕ → ℕ) → AreBelow (length xs) k → Tells xs f → Tells (lowered_kids r k xs) (low r (kids_list k) f)
kids_tell r Zero xs f below h m l = h m l
kids_tell r (One a) xs f below h m l = one_tells r a xs f below h m l ∙ ap (λ b. pick b r (f m)) (or_false_right (m == a))
kids_tell r (Two a c) xs f below h m l =
    let len = length-set xs a (min (get_or xs a 0) r) in
    let lc = below.1 in
    one_tells r c (lowered r a xs) (λ m. pick (m == a) r (f m)) (omega (arith, lc, len)) (one_tells r a xs f below.0 h) m l
    ∙ pick_or (m == a) (m == c) r (f m) ∙ ap (λ b. pick ((m == a) || b) r (f m)) (or_false_right (m == c))

first_tells : (es : List Entry) (n r : ℕ) → AreFormed es n → Tells (first_roots es n r) (firsts es n r)
first_tells [] n r formed m l = let len = length-replicate n r in get_or-replicate n m r 0 (omega (arith, l, len))
first_tells (Value x ∷ es) n r formed m l =
    let later = first_roots es (suc n) r in
    let len = length_first es (suc n) r in
    let h = first_tells es (suc n) r formed.1 in
    kids_tell (get_or later n 0) x.kids later (firsts es (suc n) r) (below_more n (length later) x.kids (omega (arith, len)) formed.0) h m l
    ∙ ap (λ s. low s (kids_list x.kids) (firsts es (suc n) r) m) (h n (omega (arith, len)))
first_tells (Root x ∷ es) n r formed m l =
    let later = first_roots es n (suc r) in
    let len = length_first es n (suc r) in
    kids_tell r x.kids later (firsts es n (suc r)) (below_more n (length later) x.kids (omega (arith, len)) formed.0) (first_tells es n (suc r) formed.1) m l

-- ---- nodes that wait, the last first, with the root that each waits for

abbrev keys : List Act → (ℕ → ℕ) → List ℕ
keys [] f = []
keys (a ∷ as') f = f (number_of a) ∷ keys as' (low (f (number_of a)) (kids_list (kids_of a)) f)

abbrev roots_of : (ℕ → ℕ) → List Act → List ℕ
roots_of g [] = []
roots_of g (a ∷ as') = g (number_of a) ∷ roots_of g as'

-- those that a root releases, and those that it doesn't
abbrev chosen : (ℕ → ℕ) → ℕ → List Act → List Act
chosen g r [] = []
chosen g r (a ∷ as') = if g (number_of a) == r then a ∷ chosen g r as' else chosen g r as'

abbrev unchosen : (ℕ → ℕ) → ℕ → List Act → List Act
unchosen g r [] = []
unchosen g r (a ∷ as') = if g (number_of a) == r then unchosen g r as' else a ∷ unchosen g r as'

keys_same : (q : List Act) (f g : ℕ → ℕ) → ((m : ℕ) → is_in m (numbers q) ≡ true → f m ≡ g m) → keys q f ≡ keys q g
keys_same [] f g h = refl
keys_same (a ∷ as') f g h =
    let n = number_of a in
    let e : f n ≡ g n = h n (ap (λ b. b || is_in n (numbers as')) (eq-eqb n n refl)) in
    (λ i. e i ∷ keys as' (low (e i) (kids_list (kids_of a)) f))
    ∙ ap (λ z. g n ∷ z) (keys_same as' (low (g n) (kids_list (kids_of a)) f) (low (g n) (kids_list (kids_of a)) g)
    (λ m i. ap (λ v. pick (is_in m (kids_list (kids_of a))) (g n) v) (h m (or_right (m == n) (is_in m (numbers as')) i))))
  where
    or_right : (a b : Bool) → b ≡ true → (a || b) ≡ true
    or_right true b h = refl
    or_right false b h = h

-- ---- appending

reversed_twice : (xs : List Act) → reversed (reversed xs) ≡ xs
reversed_twice [] = refl
reversed_twice (x ∷ xs) = reversed_snoc (reversed xs) x ∙ ap (λ z. x ∷ z) (reversed_twice xs)

chosen_snoc : (g : ℕ → ℕ) (r : ℕ) (xs : List Act) (a : Act) (b : Bool) → (g (number_of a) == r) ≡ b → chosen g r (xs ++ a ∷ []) ≡ (if b then chosen g r xs ++ a ∷ [] else chosen g r xs)
chosen_snoc g r [] a true e = ap (λ z. if z then a ∷ [] else []) e
chosen_snoc g r [] a false e = ap (λ z. if z then a ∷ [] else []) e
chosen_snoc g r (x ∷ xs) a b e = by (g (number_of x) == r) b (chosen_snoc g r xs a b e)
  where
    by : (c b : Bool) → chosen g r (xs ++ a ∷ []) ≡ (if b then chosen g r xs ++ a ∷ [] else chosen g r xs)
        → (if c then x ∷ chosen g r (xs ++ a ∷ []) else chosen g r (xs ++ a ∷ [])) ≡ (if b then (if c then x ∷ chosen g r xs else chosen g r xs) ++ a ∷ [] else (if c then x ∷ chosen g r xs else chosen g r xs))
    by true true h = ap (λ z. x ∷ z) h
    by true false h = ap (λ z. x ∷ z) h
    by false true h = h
    by false false h = h

unchosen_snoc : (g : ℕ → ℕ) (r : ℕ) (xs : List Act) (a : Act) (b : Bool) → (g (number_of a) == r) ≡ b → unchosen g r (xs ++ a ∷ []) ≡ (if b then unchosen g r xs else unchosen g r xs ++ a ∷ [])
unchosen_snoc g r [] a true e = ap (λ z. if z then [] else a ∷ []) e
unchosen_snoc g r [] a false e = ap (λ z. if z then [] else a ∷ []) e
unchosen_snoc g r (x ∷ xs) a b e = by (g (number_of x) == r) b (unchosen_snoc g r xs a b e)
  where
    by : (c b : Bool) → unchosen g r (xs ++ a ∷ []) ≡ (if b then unchosen g r xs else unchosen g r xs ++ a ∷ [])
        → (if c then unchosen g r (xs ++ a ∷ []) else x ∷ unchosen g r (xs ++ a ∷ [])) ≡ (if b then (if c then unchosen g r xs else x ∷ unchosen g r xs) else (if c then unchosen g r xs else x ∷ unchosen g r xs) ++ a ∷ [])
    by true true h = h
    by true false h = h
    by false true h = ap (λ z. x ∷ z) h
    by false false h = ap (λ z. x ∷ z) h

is_in_append : (m : ℕ) (xs ys : List ℕ) → is_in m (xs ++ ys) ≡ (is_in m xs || is_in m ys)
is_in_append m [] ys = refl
is_in_append m (x ∷ xs) ys = ap (λ b. (m == x) || b) (is_in_append m xs ys) ∙ or_assoc (m == x) (is_in m xs) (is_in m ys)
  where
    or_assoc : (a b c : Bool) → (a || (b || c)) ≡ ((a || b) || c)
    or_assoc true b c = refl
    or_assoc false b c = refl

numbers_snoc : (xs : List Act) (a : Act) → numbers (xs ++ a ∷ []) ≡ numbers xs ++ number_of a ∷ []
numbers_snoc [] a = refl
numbers_snoc (x ∷ xs) a = ap (λ z. number_of x ∷ z) (numbers_snoc xs a)

is_in_snoc : (m : ℕ) (xs : List Act) (a : Act) → is_in m (numbers (xs ++ a ∷ [])) ≡ (is_in m (numbers xs) || (m == number_of a))
is_in_snoc m xs a = ap (is_in m) (numbers_snoc xs a) ∙ is_in_append m (numbers xs) (number_of a ∷ []) ∙ ap (λ b. is_in m (numbers xs) || b) (sym (or_false_right (m == number_of a)))

or_comm : (a b : Bool) → (a || b) ≡ (b || a)
or_comm true true = refl
or_comm true false = refl
or_comm false true = refl
or_comm false false = refl

is_in_reversed : (m : ℕ) (xs : List Act) → is_in m (numbers (reversed xs)) ≡ is_in m (numbers xs)
is_in_reversed m [] = refl
is_in_reversed m (x ∷ xs) = is_in_snoc m (reversed xs) x ∙ ap (λ b. b || (m == number_of x)) (is_in_reversed m xs) ∙ or_comm (is_in m (numbers xs)) (m == number_of x)

get_snoc : {X : Type 0} (xs : List X) (y d : X) (m : ℕ) → (m ≡ length xs → ⊥) → get_or (xs ++ y ∷ []) m d ≡ get_or xs m d
get_snoc [] y d zero ne = absurd (ne refl)
get_snoc [] y d (suc m) ne = refl
get_snoc (x ∷ xs) y d zero ne = refl
get_snoc (x ∷ xs) y d (suc m) ne = get_snoc xs y d m (λ e. ne (ap suc e))

get_end : {X : Type 0} (xs : List X) (y d : X) (m : ℕ) → m ≡ length xs → get_or (xs ++ y ∷ []) m d ≡ y
get_end [] y d zero e = refl
get_end [] y d (suc m) e = absurd (omega (arith, e))
get_end (x ∷ xs) y d zero e = absurd (omega (arith, e))
get_end (x ∷ xs) y d (suc m) e = get_end xs y d m (omega (arith, e))

get_past : {X : Type 0} (xs : List X) (d : X) (m : ℕ) → length xs ≤ m → get_or xs m d ≡ d
get_past [] d m l = refl
get_past (x ∷ xs) d zero l = absurd (omega (arith, l))
get_past (x ∷ xs) d (suc m) l = get_past xs d m (omega (arith, l))

-- ---- a root parts the nodes that wait

abbrev over : Bool → ℕ → ℕ → ℕ
over true r v = r
over false r v = v

-- what the nodes that wait tell behind a root, which those of these numbers stand below
pub record ArePicked (g : ℕ → ℕ) (r : ℕ) (q : List Act) (f : ℕ → ℕ) (p : Parted) : Type 0 where
  below : p.below ≡ chosen g r (reversed q)
  others : p.others ≡ unchosen g r (reversed q)
  keyed : keys (reversed p.others) f ≡ roots_of g (reversed p.others)

over_picked : (a b : Bool) (r v : ℕ) → r < v → pick b r (over a r v) ≡ over (a || b) r v
over_picked true true r v l = omega arith
over_picked true false r v l = refl
over_picked false true r v l = omega (arith, l)
over_picked false false r v l = refl

over_other : (a b : Bool) (r s v : ℕ) → r < s → pick b s (over a r v) ≡ over a r (pick b s v)
over_other true true r s v l = omega (arith, l)
over_other true false r s v l = refl
over_other false b r s v l = refl

pick_more : (b : Bool) (r s v : ℕ) → r < s → r < v → r < pick b s v
pick_more true r s v a c = omega (arith, a, c)
pick_more false r s v a c = c

head_is : (x y : ℕ) (xs ys : List ℕ) → x ∷ xs ≡ y ∷ ys → x ≡ y
head_is x y xs ys e = cc

tail_is : (x y : ℕ) (xs ys : List ℕ) → x ∷ xs ≡ y ∷ ys → xs ≡ ys
tail_is x y xs ys e = cc

-- what is picked among the acts behind
abbrev Picks : (ℕ → ℕ) → ℕ → List Act → Type 0
Picks g r q = (ns : List ℕ) (k f : ℕ → ℕ) → ((m : ℕ) → k m ≡ over (is_in m ns) r (f m)) → ((m : ℕ) → r < f m) → keys q k ≡ roots_of g q → ArePicked g r q f (parted ns q)

module _ (g : ℕ → ℕ) (r : ℕ) (a : Act) (as' : List Act) (later : Picks g r as') (ns : List ℕ) (k f : ℕ → ℕ) (is : (m : ℕ) → k m ≡ over (is_in m ns) r (f m)) (above : (m : ℕ) → r < f m)
    (key : k (number_of a) ≡ g (number_of a)) (rest : keys as' (low (k (number_of a)) (kids_list (kids_of a)) k) ≡ roots_of g as') where
  one_below : is_in (number_of a) ns ≡ true → ArePicked g r (a ∷ as') f (with_below a (parted (ns ++ kids_list (kids_of a)) as'))
  one_below e =
      let at_root : k (number_of a) ≡ r = is (number_of a) ∙ ap (λ b. over b r (f (number_of a))) e in
      let same : (g (number_of a) == r) ≡ true = eq-eqb (g (number_of a)) r (sym key ∙ at_root) in
      let h = later (ns ++ kids_list (kids_of a)) (low (k (number_of a)) (kids_list (kids_of a)) k) f
      (λ m. (λ i. pick (is_in m (kids_list (kids_of a))) (at_root i) (is m i)) ∙ over_picked (is_in m ns) (is_in m (kids_list (kids_of a))) r (f m) (above m) ∙ ap (λ b. over b r (f m)) (sym (is_in_append m ns (kids_list (kids_of a)))))
      above rest in
      record {
        below = ap (λ z. z ++ a ∷ []) h.below ∙ sym (chosen_snoc g r (reversed as') a true same);
        others = h.others ∙ sym (unchosen_snoc g r (reversed as') a true same);
        keyed = h.keyed;
      }

  one_other : is_in (number_of a) ns ≡ false → ArePicked g r (a ∷ as') f (with_other a (parted ns as'))
  one_other e =
      let is_f : k (number_of a) ≡ f (number_of a) = is (number_of a) ∙ ap (λ b. over b r (f (number_of a))) e in
      let more = above (number_of a) in
      let same : (g (number_of a) == r) ≡ false = ne_eqb (g (number_of a)) r (λ q. let z : f (number_of a) ≡ r = sym is_f ∙ key ∙ q in omega (arith, z, more)) in
      let h = later ns (low (k (number_of a)) (kids_list (kids_of a)) k) (low (f (number_of a)) (kids_list (kids_of a)) f)
      (λ m. (λ i. pick (is_in m (kids_list (kids_of a))) (is_f i) (is m i)) ∙ over_other (is_in m ns) (is_in m (kids_list (kids_of a))) r (f (number_of a)) (f m) more)
      (λ m. pick_more (is_in m (kids_list (kids_of a))) r (f (number_of a)) (f m) more (above m)) rest in
      record {
        below = h.below ∙ sym (chosen_snoc g r (reversed as') a false same);
        others = ap (λ z. z ++ a ∷ []) h.others ∙ sym (unchosen_snoc g r (reversed as') a false same);
        keyed = ap (λ z. keys z f) (reversed_snoc (parted ns as').others a) ∙ (λ i. (sym is_f ∙ key) i ∷ h.keyed i) ∙ ap (roots_of g) (sym (reversed_snoc (parted ns as').others a));
      }

picked : (g : ℕ → ℕ) (r : ℕ) (q : List Act) → Picks g r q
picked g r [] ns k f is above keyed = record { below = refl; others = refl; keyed = refl }
picked g r (a ∷ as') ns k f is above keyed =
    let key : k (number_of a) ≡ g (number_of a) = head_is (k (number_of a)) (g (number_of a)) (keys as' (low (k (number_of a)) (kids_list (kids_of a)) k)) (roots_of g as') keyed in
    let rest : keys as' (low (k (number_of a)) (kids_list (kids_of a)) k) ≡ roots_of g as' = tail_is (k (number_of a)) (g (number_of a)) (keys as' (low (k (number_of a)) (kids_list (kids_of a)) k)) (roots_of g as') keyed in
    by (is_in (number_of a) ns) refl
    (one_below g r a as' (picked g r as') ns k f is above key rest)
    (one_other g r a as' (picked g r as') ns k f is above key rest)
  where
    by : (b : Bool) → is_in (number_of a) ns ≡ b
        → (is_in (number_of a) ns ≡ true → ArePicked g r (a ∷ as') f (with_below a (parted (ns ++ kids_list (kids_of a)) as')))
        → (is_in (number_of a) ns ≡ false → ArePicked g r (a ∷ as') f (with_other a (parted ns as')))
        → ArePicked g r (a ∷ as') f (if b then with_below a (parted (ns ++ kids_list (kids_of a)) as') else with_other a (parted ns as'))
    by true e s t = s e
    by false e s t = t e

-- ---- what a root leaves

chosen_unchosen : (g : ℕ → ℕ) (r s : ℕ) (xs : List Act) → (s ≡ r → ⊥) → chosen g s xs ≡ chosen g s (unchosen g r xs)
chosen_unchosen g r s [] ne = refl
chosen_unchosen g r s (a ∷ as') ne = by (g (number_of a) == r) (g (number_of a) == s) refl refl (chosen_unchosen g r s as' ne)
  where
    by : (b c : Bool) → (g (number_of a) == r) ≡ b → (g (number_of a) == s) ≡ c → chosen g s as' ≡ chosen g s (unchosen g r as')
        → (if c then a ∷ chosen g s as' else chosen g s as') ≡ chosen g s (if b then unchosen g r as' else a ∷ unchosen g r as')
    by true true e d h = absurd (ne (sym (eqb-true (g (number_of a)) s d) ∙ eqb-true (g (number_of a)) r e))
    by true false e d h = h
    by false true e d h = ap (λ z. a ∷ z) h ∙ sym (ap (λ z. if z then a ∷ chosen g s (unchosen g r as') else chosen g s (unchosen g r as')) d)
    by false false e d h = h ∙ sym (ap (λ z. if z then a ∷ chosen g s (unchosen g r as') else chosen g s (unchosen g r as')) d)

is_in_unchosen : (g : ℕ → ℕ) (r m : ℕ) (xs : List Act) → is_in m (numbers (unchosen g r xs)) ≡ (is_in m (numbers xs) && not (g m == r))
is_in_unchosen g r m [] = refl
is_in_unchosen g r m (a ∷ as') = by (g (number_of a) == r) (m == number_of a) refl refl (is_in_unchosen g r m as')
  where
    and_not : (i b : Bool) → b ≡ true → (i && not b) ≡ false
    and_not true b e = ap not e
    and_not false b e = refl

    by : (b c : Bool) → (g (number_of a) == r) ≡ b → (m == number_of a) ≡ c → is_in m (numbers (unchosen g r as')) ≡ (is_in m (numbers as') && not (g m == r))
        → is_in m (numbers (if b then unchosen g r as' else a ∷ unchosen g r as')) ≡ ((c || is_in m (numbers as')) && not (g m == r))
    by true true e d h =
        let q : (g m == r) ≡ true = ap (λ z. g z == r) (eqb-true m (number_of a) d) ∙ e in
        h ∙ and_not (is_in m (numbers as')) (g m == r) q ∙ sym (and_not true (g m == r) q)
    by true false e d h = h
    by false true e d h =
        ap (λ z. z || is_in m (numbers (unchosen g r as'))) d ∙ sym (ap not (ap (λ z. g z == r) (eqb-true m (number_of a) d) ∙ e))
    by false false e d h = ap (λ z. z || is_in m (numbers (unchosen g r as'))) d ∙ h

left_next : (w : Bool) (r v : ℕ) → ((w && nat_le r v) && not (v == r)) ≡ (w && nat_le (suc r) v)
left_next true r v = grind (arith, nat_tests)
left_next false r v = refl

-- ---- both walks

pub record Agree (first : List ℕ) (es : List Entry) (n r : ℕ) (pending : List Act) (ws : List Bool) (lists : List (List Act)) : Type 0 where
  formed : AreFormed es n
  count : length ws ≡ n
  room : r + root_count es ≡ length lists
  told : (m : ℕ) → n ≤ m → m < n + node_count es → get_or first m 0 ≡ firsts es n r m
  keyed : keys (reversed pending) (firsts es n r) ≡ roots_of (λ m. get_or first m 0) (reversed pending)
  held : (s : ℕ) → r ≤ s → s < length lists → get_or lists s [] ≡ chosen (λ m. get_or first m 0) s pending
  left : (m : ℕ) → is_in m (numbers pending) ≡ is_left first ws r m

kids_left : (first : List ℕ) (ws : List Bool) (r : ℕ) (pending : List Act) (k : Kids) → ((m : ℕ) → is_in m (numbers pending) ≡ is_left first ws r m) → has_kid_left first ws r k ≡ has_kid_in k (numbers pending)
kids_left first ws r pending Zero h = refl
kids_left first ws r pending (One a) h = sym (h a)
kids_left first ws r pending (Two a c) h = λ i. sym (h a) i || sym (h c) i

at_most : (r v : ℕ) → r ≤ v → nat_le r v ≡ true
at_most r v l = search (nat_tests, arith)

or_true_right : (a : Bool) → (a || true) ≡ true
or_true_right true = refl
or_true_right false = refl

agree_waits : (first : List ℕ) (x : Parts) (es : List Entry) (n r : ℕ) (pending : List Act) (ws : List Bool) (lists : List (List Act)) → Agree first (Value x ∷ es) n r pending ws lists
    → Agree first es (suc n) r (pending ++ Made n x ∷ []) (ws ++ true ∷ []) (listed (get_or first n 0) (Made n x) lists)
agree_waits first x es n r pending ws lists h =
    let g : ℕ → ℕ = λ m. get_or first m 0 in
    let f = firsts es (suc n) r in
    let a = Made n x in
    let len = length-set lists (g n) (get_or lists (g n) [] ++ a ∷ []) in
    let room = h.room in
    let key : g n ≡ f n = h.told n (omega arith) (omega arith) ∙ low_behind n (f n) n x.kids f h.formed.0 (omega arith) in
    record {
      formed = h.formed.1;
      count = let z = h.count in omega (arith, z, length-append ws (true ∷ []));
      room = omega (arith, len, room);
      told = λ m l u. h.told m (omega (arith, l)) (omega (arith, u)) ∙ low_behind n (f n) m x.kids f h.formed.0 (omega (arith, l));
      keyed = ap (λ q. keys q f) (reversed_snoc pending a) ∙ (λ i. sym key i ∷ h.keyed i) ∙ ap (roots_of g) (sym (reversed_snoc pending a));
      held = λ s l u. ⊎_elim
          (λ e. subst (λ z. get_or (listed (g n) a lists) z [] ≡ chosen g z (pending ++ a ∷ [])) (sym e)
          (get_or-set_same lists (g n) (get_or lists (g n) [] ++ a ∷ []) [] (omega (arith, e, u, len))
          ∙ ap (λ z. z ++ a ∷ []) (h.held (g n) (omega (arith, e, l)) (omega (arith, e, u, len)))
          ∙ sym (chosen_snoc g (g n) pending a true (eq-eqb (g n) (g n) refl))))
          (λ ne. get_or-set_other lists (g n) s (get_or lists (g n) [] ++ a ∷ []) [] ne ∙ h.held s l (omega (arith, u, len))
          ∙ sym (chosen_snoc g s pending a false (ne_eqb (g n) s (λ q. ne (sym q)))))
          (cases_eq s (g n));
      left = λ m. is_in_snoc m pending a ∙ ⊎_elim
          (λ e.
          let v : r ≤ g m = let z = firsts_least es (suc n) r n in let y = ap g e in omega (arith, z, key, y) in
          ap (λ b. is_in m (numbers pending) || b) (eq-eqb m n e) ∙ or_true_right (is_in m (numbers pending))
          ∙ sym ((λ i. get_end ws true false m (e ∙ sym h.count) i && at_most r (g m) v i)))
          (λ ne. ap (λ b. is_in m (numbers pending) || b) (ne_eqb m n ne) ∙ sym (or_false_right (is_in m (numbers pending))) ∙ h.left m
          ∙ sym (ap (λ b. b && nat_le r (g m)) (get_snoc ws true false m (λ q. ne (q ∙ h.count)))))
          (cases_eq m n);
    }

not_kid : (k : Kids) (ns : List ℕ) (m : ℕ) → has_kid_in k ns ≡ false → is_in m ns ≡ true → is_in m (kids_list k) ≡ false
not_kid Zero ns m h i = refl
not_kid (One a) ns m h i = rw (ne_eqb m a (λ e. true≢false (sym i ∙ ap (λ z. is_in z ns) e ∙ h))) refl
not_kid (Two a c) ns m h i =
    let o = or_false (is_in a ns) (is_in c ns) h in
    rw (ne_eqb m a (λ e. true≢false (sym i ∙ ap (λ z. is_in z ns) e ∙ o.0)), ne_eqb m c (λ e. true≢false (sym i ∙ ap (λ z. is_in z ns) e ∙ o.1))) refl
  where
    or_false : (a b : Bool) → (a || b) ≡ false → (a ≡ false) × (b ≡ false)
    or_false true b h = absurd (true≢false h)
    or_false false b h = (refl, h)

or_right_false : (a b : Bool) → (a || b) ≡ false → b ≡ false
or_right_false true b h = absurd (true≢false h)
or_right_false false b h = h

agree_made : (first : List ℕ) (x : Parts) (es : List Entry) (n r : ℕ) (pending : List Act) (ws : List Bool) (lists : List (List Act)) → Agree first (Value x ∷ es) n r pending ws lists → waits x pending ≡ false
    → Agree first es (suc n) r pending (ws ++ false ∷ []) lists
agree_made first x es n r pending ws lists h none =
    let g : ℕ → ℕ = λ m. get_or first m 0 in
    let f = firsts es (suc n) r in
    let out = or_right_false (is_call x.operator.op) (has_kid_in x.kids (numbers pending)) none in
    record {
      formed = h.formed.1;
      count = let z = h.count in omega (arith, z, length-append ws (false ∷ []));
      room = h.room;
      told = λ m l u. h.told m (omega (arith, l)) (omega (arith, u)) ∙ low_behind n (f n) m x.kids f h.formed.0 (omega (arith, l));
      keyed = keys_same (reversed pending) f (low (f n) (kids_list x.kids) f)
          (λ m i. sym (ap (λ b. pick b (f n) (f m)) (not_kid x.kids (numbers pending) m out (sym (is_in_reversed m pending) ∙ i)))) ∙ h.keyed;
      held = h.held;
      left = λ m. h.left m ∙ ⊎_elim
          (λ e. (λ i. get_past ws false m (let z = h.count in omega (arith, z, e)) i && nat_le r (g m))
          ∙ sym (ap (λ b. b && nat_le r (g m)) (get_end ws false false m (e ∙ sym h.count))))
          (λ ne. sym (ap (λ b. b && nat_le r (g m)) (get_snoc ws false false m (λ q. ne (q ∙ h.count)))))
          (cases_eq m n);
    }

pick_over : (b : Bool) (r v : ℕ) → r < v → pick b r v ≡ over b r v
pick_over true r v l = omega (arith, l)
pick_over false r v l = refl

module _ (first : List ℕ) (x : Parts) (es : List Entry) (n r : ℕ) (pending : List Act) (ws : List Bool) (lists : List (List Act)) (h : Agree first (Root x ∷ es) n r pending ws lists) where
  root_picks : ArePicked (λ m. get_or first m 0) r (reversed pending) (firsts es n (suc r)) (parted (kids_list x.kids) (reversed pending))
  root_picks =
      picked (λ m. get_or first m 0) r (reversed pending) (kids_list x.kids) (firsts (Root x ∷ es) n r) (firsts es n (suc r))
      (λ m. pick_over (is_in m (kids_list x.kids)) r (firsts es n (suc r) m) (let z = firsts_least es n (suc r) m in omega (arith, z)))
      (λ m. let z = firsts_least es n (suc r) m in omega (arith, z)) h.keyed

  root_below : (parted (kids_list x.kids) (reversed pending)).below ≡ get_or lists r []
  root_below = root_picks.below ∙ ap (chosen (λ m. get_or first m 0) r) (reversed_twice pending) ∙ sym (h.held r (omega arith) (let z = h.room in omega (arith, z)))

  root_others : (parted (kids_list x.kids) (reversed pending)).others ≡ unchosen (λ m. get_or first m 0) r pending
  root_others = root_picks.others ∙ ap (unchosen (λ m. get_or first m 0) r) (reversed_twice pending)

  agree_root : Agree first es n (suc r) (parted (kids_list x.kids) (reversed pending)).others ws lists
  agree_root = record {
    formed = h.formed.1;
    count = h.count;
    room = let z = h.room in omega (arith, z);
    told = λ m l u. h.told m l u ∙ low_behind n r m x.kids (firsts es n (suc r)) h.formed.0 l;
    keyed = root_picks.keyed;
    held = λ s l u. h.held s (omega (arith, l)) u ∙ chosen_unchosen (λ m. get_or first m 0) r s pending (λ e. omega (arith, e, l)) ∙ ap (chosen (λ m. get_or first m 0) s) (sym root_others);
    left = λ m. ap (λ z. is_in m (numbers z)) root_others ∙ is_in_unchosen (λ m. get_or first m 0) r m pending ∙ ap (λ b. b && not (get_or first m 0 == r)) (h.left m) ∙ left_next (get_or ws m false) r (get_or first m 0);
  }

turned : (first : List ℕ) (es : List Entry) (n r : ℕ) (pending : List Act) (ws : List Bool) (lists : List (List Act)) → Agree first es n r pending ws lists → by_lists first es r ws lists ≡ in_turn es n pending
turned first [] n r pending ws lists h = refl
turned first (Value x ∷ es) n r pending ws lists h =
    ap (λ b. if b then by_lists first es r (ws ++ true ∷ []) (listed (get_or first (length ws) 0) (Made (length ws) x) lists) else Made (length ws) x ∷ by_lists first es r (ws ++ false ∷ []) lists)
    (ap (λ b. is_call x.operator.op || b) (kids_left first ws r pending x.kids h.left))
    ∙ by (waits x pending) refl
    ((λ i. by_lists first es r (ws ++ true ∷ []) (listed (get_or first (h.count i) 0) (Made (h.count i) x) lists))
    ∙ turned first es (suc n) r (pending ++ Made n x ∷ []) (ws ++ true ∷ []) (listed (get_or first n 0) (Made n x) lists) (agree_waits first x es n r pending ws lists h))
    (λ e. λ i. Made (h.count i) x ∷ turned first es (suc n) r pending (ws ++ false ∷ []) lists (agree_made first x es n r pending ws lists h e) i)
  where
    by : (b : Bool) → waits x pending ≡ b
        → by_lists first es r (ws ++ true ∷ []) (listed (get_or first (length ws) 0) (Made (length ws) x) lists) ≡ in_turn es (suc n) (pending ++ Made n x ∷ [])
        → (waits x pending ≡ false → (Made (length ws) x ∷ by_lists first es r (ws ++ false ∷ []) lists) ≡ (Made n x ∷ in_turn es (suc n) pending))
        → (if b then by_lists first es r (ws ++ true ∷ []) (listed (get_or first (length ws) 0) (Made (length ws) x) lists) else Made (length ws) x ∷ by_lists first es r (ws ++ false ∷ []) lists)
        ≡ (if b then in_turn es (suc n) (pending ++ Made n x ∷ []) else Made n x ∷ in_turn es (suc n) pending)
    by true e s t = s
    by false e s t = t e
turned first (Root x ∷ es) n r pending ws lists h =
    λ i. sym (root_below first x es n r pending ws lists h) i ++ Acts x ∷ turned first es n (suc r) (parted (kids_list x.kids) (reversed pending)).others ws lists (agree_root first x es n r pending ws lists h) i

-- the second walk tells what the entries do in turn
pub all_turned : (es : List Entry) → AreFormed es 0 → by_lists (first_roots es 0 0) es 0 [] (replicate (root_count es) []) ≡ in_turn es 0 []
all_turned es formed =
    let nothing : List Act = [] in
    turned (first_roots es 0 0) es 0 0 [] [] (replicate (root_count es) []) (record {
      formed = formed;
      count = refl;
      room = let z = length-replicate (root_count es) nothing in omega (arith, z);
      told = λ m l u. first_tells es 0 0 formed m (let z = length_first es 0 0 in omega (arith, z, u));
      keyed = refl;
      held = λ s l u. get_or-replicate (root_count es) s [] [] (let z = length-replicate (root_count es) nothing in omega (arith, z, u));
      left = λ m. refl;
    })
