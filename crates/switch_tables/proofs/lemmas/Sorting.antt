-- Cases in rising order: each number keeps its label, and a sort of them by their places gives them.
use Rattle.std.proofs.Common.{◌≡◌, ◌≢◌, ℕ, suc, ◌+◌, ◌^◌, ◌<◌, ◌≤◌, ◌==◌, ◌&&◌, ◌||◌, not, nat_lt, nat_le, Bool, true, false, List, [], ◌∷◌, length, get_or, refl, sym, ap, ◌∙◌, arith}
use Rattle.std.proofs.lemmas.Bool.{ltb-true, ltb-false, lt-leb, le-leb, eq-eqb, ne_eqb, eqb-true, eqb-false}
use Rattle.std.proofs.lemmas.List.Sums.{sum_by-cons}
use Rattle.std.proofs.lemmas.List.Sorted.{sum_by-IsPermutation}
use Rattle.std.specs.Prelude.{if◌then◌else◌, sum_by}
use Rattle.std.specs.List.{AllByRecursion}
use Rattle.std.specs.List.Sorted.{IsPermutation, IsNonDecreasingBy}
use Rattle.objects.specs.Arithmetic.{is_less}
use Rattle.c_meaning.specs.declared.core_stmt.CoreCase.{CoreCase}
use Rattle.c_meaning.specs.Units.{are_apart, is_among, numbers}
use Rattle.switch_tables.specs.Cases.{label_of, AreWords}
use Rattle.switch_tables.specs.Order.{rank, placed, rising, IsRising}
use Rattle.switch_tables.specs.Laws.{IsSameRising}
use Rattle.switch_tables.proofs.lemmas.Ranks.{rank_apart, less_by_rank}
use Rattle.switch_tables.proofs.lemmas.Labels.{HasNone}

-- ---- cases apart

pub both : (a b : Bool) → a && b ≡ true → (a ≡ true) × (b ≡ true)
both true b h = (refl, h)
both false b h = cc

neither : (a b : Bool) → not (a || b) ≡ true → (a ≡ false) × (not b ≡ true)
neither true b h = cc
neither false b h = (refl, h)

none_among : (n : ℕ) (cases : List CoreCase) → not (is_among n (numbers cases)) ≡ true → HasNone n cases
none_among n [] h = tt
none_among n (c ∷ cs) h =
    let parts = neither (n == c.number) (is_among n (numbers cs)) h in
    (λ e. eqb-false n c.number parts.0 (sym e), none_among n cs parts.1)

pub none_behind : (c : CoreCase) (cs : List CoreCase) → are_apart (numbers (c ∷ cs)) ≡ true → HasNone c.number cs
none_behind c cs h = none_among c.number cs (both (not (is_among c.number (numbers cs))) (are_apart (numbers cs)) h).0

pub apart_behind : (c : CoreCase) (cs : List CoreCase) → are_apart (numbers (c ∷ cs)) ≡ true → are_apart (numbers cs) ≡ true
apart_behind c cs h = (both (not (is_among c.number (numbers cs))) (are_apart (numbers cs)) h).1

-- ---- what holds of each case holds in rising order

pub placed_all : (P : CoreCase → Type 0) (signed : Bool) (c : CoreCase) (cs : List CoreCase) → P c → AllByRecursion P cs → AllByRecursion P (placed signed c cs)
placed_all P signed c [] p h = (p, tt)
placed_all P signed c (d ∷ ds) p h = by (is_less signed d.number c.number) (placed_all P signed c ds p h.1)
  where
    by : (q : Bool) → AllByRecursion P (placed signed c ds) → AllByRecursion P (if q then d ∷ placed signed c ds else c ∷ d ∷ ds)
    by true rest = (h.0, rest)
    by false rest = (p, (h.0, h.1))

pub rising_all : (P : CoreCase → Type 0) (signed : Bool) (cs : List CoreCase) → AllByRecursion P cs → AllByRecursion P (rising signed cs)
rising_all P signed [] h = tt
rising_all P signed (c ∷ cs) h = placed_all P signed c (rising signed cs) h.0 (rising_all P signed cs h.1)

-- ---- each number keeps its label

exchanged : (a b : Bool) (x y z : ℕ) → (a ≡ true → b ≡ true → ⊥) → (if a then x else if b then y else z) ≡ (if b then y else if a then x else z)
exchanged true true x y z h = absurd (h refl refl)
exchanged true false x y z h = refl
exchanged false true x y z h = refl
exchanged false false x y z h = refl

label_of_placed : (signed : Bool) (c : CoreCase) (cs : List CoreCase) (default n : ℕ) → HasNone c.number cs → label_of (placed signed c cs) default n ≡ label_of (c ∷ cs) default n
label_of_placed signed c [] default n h = refl
label_of_placed signed c (d ∷ ds) default n h = by (is_less signed d.number c.number) (label_of_placed signed c ds default n h.1)
  where
    by : (q : Bool) → label_of (placed signed c ds) default n ≡ label_of (c ∷ ds) default n → label_of (if q then d ∷ placed signed c ds else c ∷ d ∷ ds) default n ≡ label_of (c ∷ d ∷ ds) default n
    by true rest =
        ap (λ l. if d.number == n then d.label else l) rest
        ∙ exchanged (d.number == n) (c.number == n) d.label c.label (label_of ds default n) (λ e f. h.0 (eqb-true d.number n e ∙ sym (eqb-true c.number n f)))
    by false rest = refl

pub label_of_rising : (signed : Bool) (cs : List CoreCase) (default n : ℕ) → are_apart (numbers cs) ≡ true → label_of (rising signed cs) default n ≡ label_of cs default n
label_of_rising signed [] default n h = refl
label_of_rising signed (c ∷ cs) default n h =
    label_of_placed signed c (rising signed cs) default n (rising_all (λ d. d.number ≢ c.number) signed cs (none_behind c cs h))
    ∙ ap (λ l. if c.number == n then c.label else l) (label_of_rising signed cs default n (apart_behind c cs h))

-- ---- the order

-- each place is above r
abbrev pub AreAbove : Bool → ℕ → List CoreCase → Type 0
AreAbove signed r cases = AllByRecursion (λ d. r < rank signed d.number) cases

pub above_more : (signed : Bool) (r s : ℕ) (cs : List CoreCase) → r ≤ s → AreAbove signed s cs → AreAbove signed r cs
above_more signed r s [] l h = tt
above_more signed r s (c ∷ cs) l h = (omega (arith, h.0), above_more signed r s cs l h.1)

placed_rises : (signed : Bool) (c : CoreCase) (cs : List CoreCase) → c.number < 2 ^ 32 → AreWords cs → HasNone c.number cs → IsRising signed cs → IsRising signed (placed signed c cs)
placed_rises signed c [] w ws h r = (tt, tt)
placed_rises signed c (d ∷ ds) w ws h r = by (is_less signed d.number c.number) refl (placed_rises signed c ds w ws.1 h.1 r.1)
  where
    by : (q : Bool) → is_less signed d.number c.number ≡ q → IsRising signed (placed signed c ds) → IsRising signed (if q then d ∷ placed signed c ds else c ∷ d ∷ ds)
    by true e rest =
        let below = ltb-true (rank signed d.number) (rank signed c.number) (sym (less_by_rank signed d.number c.number ws.0 w) ∙ e) in
        (placed_all (λ x. rank signed d.number < rank signed x.number) signed c ds below r.0, rest)
    by false e rest =
        let least = ltb-false (rank signed d.number) (rank signed c.number) (sym (less_by_rank signed d.number c.number ws.0 w) ∙ e) in
        let differ : rank signed c.number ≢ rank signed d.number = λ f. h.0 (sym (rank_apart signed c.number d.number w ws.0 f)) in
        let below : rank signed c.number < rank signed d.number = omega arith in
        ((below, above_more signed (rank signed c.number) (rank signed d.number) ds (omega arith) r.0), (r.0, r.1))

pub rising_rises : (signed : Bool) (cs : List CoreCase) → AreWords cs → are_apart (numbers cs) ≡ true → IsRising signed (rising signed cs)
rising_rises signed [] ws h = tt
rising_rises signed (c ∷ cs) ws h =
    placed_rises signed c (rising signed cs) ws.0
    (rising_all (λ d. d.number < 2 ^ 32) signed cs ws.1)
    (rising_all (λ d. d.number ≢ c.number) signed cs (none_behind c cs h))
    (rising_rises signed cs ws.1 (apart_behind c cs h))

pub same_rising : (signed : Bool) (cs : List CoreCase) → AreWords cs → are_apart (numbers cs) ≡ true → IsSameRising signed cs
same_rising signed cs ws h = (λ default n. label_of_rising signed cs default n h, rising_rises signed cs ws h)

-- ---- the sum of a function stays the same

sum_of_placed : (f : CoreCase → ℕ) (signed : Bool) (c : CoreCase) (cs : List CoreCase) → sum_by f (placed signed c cs) ≡ f c + sum_by f cs
sum_of_placed f signed c [] = sum_by-cons f c []
sum_of_placed f signed c (d ∷ ds) = by (is_less signed d.number c.number) (sum_of_placed f signed c ds)
  where
    by : (q : Bool) → sum_by f (placed signed c ds) ≡ f c + sum_by f ds → sum_by f (if q then d ∷ placed signed c ds else c ∷ d ∷ ds) ≡ f c + sum_by f (d ∷ ds)
    by true rest = omega (arith, sum_by-cons f d (placed signed c ds), rest, sum_by-cons f d ds)
    by false rest = sum_by-cons f c (d ∷ ds)

pub sum_of_rising : (f : CoreCase → ℕ) (signed : Bool) (cs : List CoreCase) → sum_by f (rising signed cs) ≡ sum_by f cs
sum_of_rising f signed [] = refl
sum_of_rising f signed (c ∷ cs) = omega (arith, sum_of_placed f signed c (rising signed cs), sum_of_rising f signed cs, sum_by-cons f c cs)

length_placed : (signed : Bool) (c : CoreCase) (cs : List CoreCase) → length (placed signed c cs) ≡ suc (length cs)
length_placed signed c [] = refl
length_placed signed c (d ∷ ds) = by (is_less signed d.number c.number) (length_placed signed c ds)
  where
    by : (q : Bool) → length (placed signed c ds) ≡ suc (length ds) → length (if q then d ∷ placed signed c ds else c ∷ d ∷ ds) ≡ suc (length (d ∷ ds))
    by true rest = ap suc rest
    by false rest = refl

pub length_rising : (signed : Bool) (cs : List CoreCase) → length (rising signed cs) ≡ length cs
length_rising signed [] = refl
length_rising signed (c ∷ cs) = length_placed signed c (rising signed cs) ∙ ap suc (length_rising signed cs)

-- ---- cases that don't fall, with the same sums as rising ones, are these

-- no place is below the one before it, nor the first below r
abbrev pub Climbs : Bool → ℕ → List CoreCase → Type 0
Climbs signed r [] = Unit {0}
Climbs signed r (c ∷ cs) = (r ≤ rank signed c.number) × Climbs signed (rank signed c.number) cs

pub climbs : (signed : Bool) (r : ℕ) (cs : List CoreCase) → IsNonDecreasingBy (λ c. rank signed c.number) cs → ((c : CoreCase) → 0 < length cs → r ≤ rank signed (get_or cs 0 c).number) → Climbs signed r cs
climbs signed r [] h least = tt
climbs signed r (c ∷ cs) h least =
    (least c (omega arith), climbs signed (rank signed c.number) cs (λ i j d l m. h (suc i) (suc j) d (omega arith) (omega arith)) (λ d l. h 0 1 d (omega arith) (omega arith)))

climbs_more : (signed : Bool) (r s : ℕ) (cs : List CoreCase) → r ≤ s → Climbs signed s cs → Climbs signed r cs
climbs_more signed r s [] l h = tt
climbs_more signed r s (c ∷ cs) l h = (omega (arith, h.0), h.1)

abbrev one_if : Bool → ℕ
one_if true = 1
one_if false = 0

sum_of_none : (p : CoreCase → Bool) (cs : List CoreCase) → AllByRecursion (λ c. p c ≡ false) cs → sum_by (λ c. one_if (p c)) cs ≡ 0
sum_of_none p [] h = refl
sum_of_none p (c ∷ cs) h = omega (arith, sum_by-cons (λ d. one_if (p d)) c cs, ap one_if h.0, sum_of_none p cs h.1)

-- how many cases pass
abbrev count : (CoreCase → Bool) → List CoreCase → ℕ
count p cases = sum_by (λ c. one_if (p c)) cases

le_if : (a b : Bool) → (a ≡ true → b ≡ true) → one_if a ≤ one_if b
le_if true b f = omega (arith, ap one_if (f refl))
le_if false b f = omega arith

some_if : (a : Bool) → 0 < one_if a → a ≡ true
some_if true h = refl
some_if false h = absurd (omega arith)

count_le : (p q : CoreCase → Bool) → ((c : CoreCase) → p c ≡ true → q c ≡ true) → (cs : List CoreCase) → count p cs ≤ count q cs
count_le p q f [] = omega arith
count_le p q f (c ∷ cs) =
    omega (arith, sum_by-cons (λ d. one_if (p d)) c cs, sum_by-cons (λ d. one_if (q d)) c cs, le_if (p c) (q c) (f c), count_le p q f cs)

all_weaker : (P Q : CoreCase → Type 0) → ((c : CoreCase) → P c → Q c) → (cs : List CoreCase) → AllByRecursion P cs → AllByRecursion Q cs
all_weaker P Q f [] h = tt
all_weaker P Q f (c ∷ cs) h = (f c h.0, all_weaker P Q f cs h.1)

at_least : (signed : Bool) (r : ℕ) (cs : List CoreCase) → Climbs signed r cs → AllByRecursion (λ c. r ≤ rank signed c.number) cs
at_least signed r [] h = tt
at_least signed r (c ∷ cs) h = (h.0, at_least signed r cs (climbs_more signed r (rank signed c.number) cs h.0 h.1))

abbrev AreCountedAlike : List CoreCase → List CoreCase → Type 0
AreCountedAlike xs ys = (f : CoreCase → ℕ) → sum_by f ys ≡ sum_by f xs

-- neither list begins below the other
not_below : (signed : Bool) (x : CoreCase) (xs : List CoreCase) (y : CoreCase) (ys : List CoreCase) → AreAbove signed (rank signed x.number) xs → AreCountedAlike (x ∷ xs) (y ∷ ys) → rank signed x.number ≤ rank signed y.number
not_below signed x xs y ys up h = by (nat_lt (rank signed y.number) (rank signed x.number)) refl
  where
    by : (q : Bool) → nat_lt (rank signed y.number) (rank signed x.number) ≡ q → rank signed x.number ≤ rank signed y.number
    by false e = ltb-false (rank signed y.number) (rank signed x.number) e
    by true e =
        let low : rank signed y.number < rank signed x.number = ltb-true (rank signed y.number) (rank signed x.number) e in
        let p : CoreCase → Bool = λ d. nat_le (rank signed d.number) (rank signed y.number) in
        let none : count p (x ∷ xs) ≡ 0 =
        sum_of_none p (x ∷ xs) (
          lt-leb (rank signed x.number) (rank signed y.number) low,
          all_weaker (λ d. rank signed x.number < rank signed d.number) (λ d. p d ≡ false) (λ d l. lt-leb (rank signed d.number) (rank signed y.number) (omega arith)) xs up,
        )
        in
        let one : one_if (p y) ≡ 1 = ap one_if (le-leb (rank signed y.number) (rank signed y.number) (omega arith)) in
        absurd (omega (arith, none, one, h (λ d. one_if (p d)), sum_by-cons (λ d. one_if (p d)) y ys))

not_above : (signed : Bool) (x : CoreCase) (xs : List CoreCase) (y : CoreCase) (ys : List CoreCase) → Climbs signed (rank signed y.number) ys → AreCountedAlike (x ∷ xs) (y ∷ ys) → rank signed y.number ≤ rank signed x.number
not_above signed x xs y ys up h = by (nat_lt (rank signed x.number) (rank signed y.number)) refl
  where
    by : (q : Bool) → nat_lt (rank signed x.number) (rank signed y.number) ≡ q → rank signed y.number ≤ rank signed x.number
    by false e = ltb-false (rank signed x.number) (rank signed y.number) e
    by true e =
        let low : rank signed x.number < rank signed y.number = ltb-true (rank signed x.number) (rank signed y.number) e in
        let p : CoreCase → Bool = λ d. nat_le (rank signed d.number) (rank signed x.number) in
        let none : count p (y ∷ ys) ≡ 0 =
        sum_of_none p (y ∷ ys) (
          lt-leb (rank signed y.number) (rank signed x.number) low,
          all_weaker (λ d. rank signed y.number ≤ rank signed d.number) (λ d. p d ≡ false) (λ d l. lt-leb (rank signed d.number) (rank signed x.number) (omega arith)) ys (at_least signed (rank signed y.number) ys up),
        )
        in
        let one : one_if (p x) ≡ 1 = ap one_if (le-leb (rank signed x.number) (rank signed x.number) (omega arith)) in
        absurd (omega (arith, none, one, h (λ d. one_if (p d)), sum_by-cons (λ d. one_if (p d)) x xs))

same_parts : (x y : CoreCase) → (y.number == x.number) && (y.label == x.label) ≡ true → y ≡ x
same_parts x y h =
    let parts = both (y.number == x.number) (y.label == x.label) h in
    ap (λ (n : ℕ). let c : CoreCase = record { number = n; label = y.label } in c) (eqb-true y.number x.number parts.0)
    ∙ ap (λ (l : ℕ). let c : CoreCase = record { number = x.number; label = l } in c) (eqb-true y.label x.label parts.1)

both_true : (a b : Bool) → a ≡ true → b ≡ true → a && b ≡ true
both_true true b e f = f
both_true false b e f = cc

-- at one place they are one case: there is no other one at that place
same_head : (signed : Bool) (x : CoreCase) (xs : List CoreCase) (y : CoreCase) (ys : List CoreCase) → AreAbove signed (rank signed x.number) xs → rank signed y.number ≡ rank signed x.number → AreCountedAlike (x ∷ xs) (y ∷ ys) → y ≡ x
same_head signed x xs y ys up e h =
    let at : CoreCase → Bool = λ d. rank signed d.number == rank signed x.number in
    let is : CoreCase → Bool = λ d. (d.number == x.number) && (d.label == x.label) in
    let rest : count at xs ≡ 0 =
    sum_of_none at xs (all_weaker (λ d. rank signed x.number < rank signed d.number) (λ d. at d ≡ false) (λ d l. ne_eqb (rank signed d.number) (rank signed x.number) (λ f. absurd (omega arith))) xs up)
    in
    let first : one_if (at x) ≡ 1 = ap one_if (eq-eqb (rank signed x.number) (rank signed x.number) refl) in
    let second : one_if (at y) ≡ 1 = ap one_if (eq-eqb (rank signed y.number) (rank signed x.number) e) in
    let alone : count at ys ≡ 0 = omega (arith, rest, first, second, h (λ d. one_if (at d)), sum_by-cons (λ d. one_if (at d)) x xs, sum_by-cons (λ d. one_if (at d)) y ys) in
    let fewer : count is ys ≤ count at ys =
    count_le is at (λ d f. eq-eqb (rank signed d.number) (rank signed x.number) (ap (rank signed) (eqb-true d.number x.number (both (d.number == x.number) (d.label == x.label) f).0))) ys
    in
    let itself : one_if (is x) ≡ 1 = ap one_if (both_true (x.number == x.number) (x.label == x.label) (eq-eqb x.number x.number refl) (eq-eqb x.label x.label refl)) in
    let found : 0 < one_if (is y) = omega (arith, alone, fewer, itself, h (λ d. one_if (is d)), sum_by-cons (λ d. one_if (is d)) x xs, sum_by-cons (λ d. one_if (is d)) y ys) in
    same_parts x y (some_if (is y) found)

same_by_sums : (signed : Bool) (xs ys : List CoreCase) (r : ℕ) → IsRising signed xs → Climbs signed r ys → AreCountedAlike xs ys → ys ≡ xs
same_by_sums signed [] [] r rise up h = refl
same_by_sums signed [] (y ∷ ys) r rise up h = absurd (omega (arith, h (λ _. 1), sum_by-cons (λ (_ : CoreCase). 1) y ys))
same_by_sums signed (x ∷ xs) [] r rise up h = absurd (omega (arith, h (λ _. 1), sum_by-cons (λ (_ : CoreCase). 1) x xs))
same_by_sums signed (x ∷ xs) (y ∷ ys) r rise up h =
    let low = not_below signed x xs y ys rise.0 h in
    let high = not_above signed x xs y ys up.1 h in
    let place : rank signed y.number ≡ rank signed x.number = omega arith in
    let head = same_head signed x xs y ys rise.0 place h in
    let alike : AreCountedAlike xs ys = λ f. omega (arith, h f, ap f head, sum_by-cons f x xs, sum_by-cons f y ys) in
    ap (λ c. c ∷ ys) head ∙ ap (λ cs. x ∷ cs) (same_by_sums signed xs ys (rank signed y.number) rise.1 up.1 alike)

-- what a sort by their places gives
pub sorted_is : (signed : Bool) (cases sorted : List CoreCase) → AreWords cases → are_apart (numbers cases) ≡ true → IsPermutation cases sorted → IsNonDecreasingBy (λ c. rank signed c.number) sorted → sorted ≡ rising signed cases
sorted_is signed cases sorted ws h same up =
    same_by_sums signed (rising signed cases) sorted 0 (rising_rises signed cases ws h) (climbs signed 0 sorted up (λ c l. omega arith))
    (λ f. sum_by-IsPermutation f cases sorted same ∙ sym (sum_of_rising f signed cases))
