-- A block makes each of its nodes once, with the unused ones and without them.
use Rattle.std.proofs.Common.{◌≡◌, ⊎_elim, ℕ, suc, ◌+◌, ◌≤◌, ◌==◌, Bool, true, false, List, [], ◌∷◌, ◌++◌, refl, ap, arith}
use Rattle.std.specs.Prelude.{cond, nat_le}
use Rattle.std.proofs.lemmas.Bool.{cases_eq, eq-eqb}
use Rattle.std.proofs.lemmas.Bool.Decides.{nat_tests}
use Rattle.dag_forest.specs.declared.entry.Entry.{Entry}
use Rattle.dag_forest.specs.declared.entry.Entry.TheVariants.{Value, Root}
use Rattle.std.specs.Prelude.{if◌then◌else◌}
use Rattle.dag_forest.specs.declared.parts.Parts.{Parts}
use Rattle.dag_forest.specs.Schedules.{Act, Made, Acts, Parted, at, with_below, with_other, is_in, waits, number_of, kids_of, kids_list, parted, reversed, in_turn, all_uses, used, acts_of}
use Rattle.dag_forest.specs.Emission.{AreOnce}
use Rattle.dag_forest.proofs.lemmas.Maps.{at_old}

abbrev hit : ℕ → ℕ → ℕ
hit m n = cond (m == n) 1 0

-- how often a node is made
abbrev times_made : ℕ → Act → ℕ
times_made m (Made n x) = hit m n
times_made m (Acts x) = 0

abbrev times : ℕ → List Act → ℕ
times m [] = 0
times m (a ∷ as') = times_made m a + times m as'

-- the nodes from n on are still to come
abbrev to_come : ℕ → ℕ → ℕ
to_come n m = cond (nat_le n m) 1 0

times_append : (m : ℕ) (xs ys : List Act) → times m (xs ++ ys) ≡ times m xs + times m ys
times_append m [] ys = omega arith
times_append m (a ∷ as') ys = let h = times_append m as' ys in omega (arith, h)

times_reversed : (m : ℕ) (xs : List Act) → times m (reversed xs) ≡ times m xs
times_reversed m [] = refl
times_reversed m (a ∷ as') = let h = times_reversed m as' in let e = times_append m (reversed as') (a ∷ []) in omega (arith, h, e)

parted_by : (m : ℕ) (b : Bool) (a : Act) (p q : Parted) (n : ℕ) → times m p.below + times m p.others ≡ n → times m q.below + times m q.others ≡ n
    → times m (if b then with_below a p else with_other a q).below + times m (if b then with_below a p else with_other a q).others ≡ times_made m a + n
parted_by m true a p q n h k = let e = times_append m p.below (a ∷ []) in omega (arith, h, e)
parted_by m false a p q n h k = let e = times_append m q.others (a ∷ []) in omega (arith, k, e)

times_parted : (m : ℕ) (ns : List ℕ) (xs : List Act) → times m (parted ns xs).below + times m (parted ns xs).others ≡ times m xs
times_parted m ns [] = omega arith
times_parted m ns (a ∷ as') =
    parted_by m (is_in (number_of a) ns) a (parted (ns ++ kids_list (kids_of a)) as') (parted ns as') (times m as') (times_parted m (ns ++ kids_list (kids_of a)) as') (times_parted m ns as')

comes_next : (n m : ℕ) → hit m n + to_come (suc n) m ≤ to_come n m
comes_next n m = search (nat_tests, arith)

-- a node that waits, and one that is made now
waits_by : (m n : ℕ) (x : Parts) (b : Bool) (waiting : ℕ) (xs ys : List Act) → times m xs ≤ (waiting + hit m n) + to_come (suc n) m → times m ys ≤ waiting + to_come (suc n) m → times m (if b then xs else Made n x ∷ ys) ≤ waiting + to_come n m
waits_by m n x true waiting xs ys h g = let c = comes_next n m in omega (arith, h, c)
waits_by m n x false waiting xs ys h g = let c = comes_next n m in omega (arith, g, c)

times_in_turn : (m : ℕ) (es : List Entry) (n : ℕ) (pending : List Act) → times m (in_turn es n pending) ≤ times m pending + to_come n m
times_in_turn m [] n pending = omega arith
times_in_turn m (Value x ∷ es) n pending =
    let h = times_in_turn m es (suc n) (pending ++ Made n x ∷ []) in let e = times_append m pending (Made n x ∷ []) in
    waits_by m n x (waits x pending) (times m pending) (in_turn es (suc n) (pending ++ Made n x ∷ [])) (in_turn es (suc n) pending) (omega (arith, h, e)) (times_in_turn m es (suc n) pending)
times_in_turn m (Root x ∷ es) n pending =
    let p = parted (kids_list x.kids) (reversed pending) in
    let h = times_in_turn m es n p.others in
    let e = times_append m p.below (Acts x ∷ in_turn es n p.others) in
    let k = times_parted m (kids_list x.kids) (reversed pending) in
    let r = times_reversed m pending in
    omega (arith, h, e, k, r)

used_by : (m n : ℕ) (x : Parts) (b : Bool) (xs ys : List Act) → times m xs ≤ times m ys → times m (if b then Made n x ∷ xs else xs) ≤ hit m n + times m ys
used_by m n x true xs ys h = omega (arith, h)
used_by m n x false xs ys h = omega (arith, h)

times_used : (m : ℕ) (xs : List Act) → times m (used xs) ≤ times m xs
times_used m [] = omega arith
times_used m (Made n x ∷ as') = used_by m n x (is_in n (all_uses (used as'))) (used as') as' (times_used m as')
times_used m (Acts x ∷ as') = let h = times_used m as' in omega (arith, h)

abbrev made_before : (ℕ → Bool) → ℕ → ℕ
made_before made m = cond (made m) 1 0

fresh_by : (b : Bool) (k : ℕ) → (1 + k) + cond b 1 0 ≤ 1 → b ≡ false
fresh_by true k h = absurd (omega (arith, h))
fresh_by false k h = refl

few : (b : Bool) → cond b 1 0 ≤ 1
few true = omega arith
few false = omega arith

made_next : (made : ℕ → Bool) (n m : ℕ) → made n ≡ false → made_before (at made n true) m ≤ made_before made m + hit m n
made_next made n m fresh = ⊎_elim
    (λ e. let k : hit m n ≡ 1 = ap (λ b. cond b 1 0) (eq-eqb m n e) in let l = few (at made n true m) in omega (arith, k, l))
    (λ ne. let k : made_before (at made n true) m ≡ made_before made m = ap (λ b. cond b 1 0) (at_old made n true m ne) in omega (arith, k))
    (cases_eq m n)

are_once : (xs : List Act) (made : ℕ → Bool) → ((m : ℕ) → times m xs + made_before made m ≤ 1) → AreOnce xs made
are_once [] made h = tt
are_once (Made n x ∷ as') made h =
    let here = h n in let e : hit n n ≡ 1 = rw (eq-eqb n n refl) refl in
    let fresh : made n ≡ false = fresh_by (made n) (times n as') (omega (arith, here, e)) in
    (fresh, are_once as' (at made n true) (λ m. let all = h m in let next = made_next made n m fresh in omega (arith, all, next)))
are_once (Acts x ∷ as') made h = are_once as' made (λ m. let all = h m in omega (arith, all))

at_most_one : (n m : ℕ) → to_come n m ≤ 1
at_most_one n m = search (nat_tests, arith)

pub turns_are_once : (entries : List Entry) → AreOnce (in_turn entries 0 []) (λ m. false)
turns_are_once entries = are_once (in_turn entries 0 []) (λ m. false) (λ m. let t = times_in_turn m entries 0 [] in let c = at_most_one 0 m in omega (arith, t, c))

pub acts_are_once : (entries : List Entry) → AreOnce (acts_of entries) (λ m. false)
acts_are_once entries = are_once (acts_of entries) (λ m. false) (λ m.
    let u = times_used m (in_turn entries 0 []) in let t = times_in_turn m entries 0 [] in let c = at_most_one 0 m in omega (arith, u, t, c))
