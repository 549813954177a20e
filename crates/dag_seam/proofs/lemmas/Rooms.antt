-- The rooms of a block's nodes.
use Rattle.std.proofs.Common.{◌≡◌, ⊎_elim, ℕ, suc, ◌+◌, ◌<◌, ◌≤◌, Bool, true, false, Option, Some, None, List, [], ◌∷◌, ◌++◌, inl, inr, refl, sym, ap, ◌∙◌, subst, arith}
use Rattle.std.specs.Prelude.{◌⊎◌, ◌&&◌, not, if◌then◌else◌}
use Rattle.std.proofs.lemmas.Bool.{cases_eq}
use Rattle.dag_forest.specs.declared.act.Act.{Act}
use Rattle.dag_forest.specs.declared.act.Act.TheVariants.{Made, Acts}
use Rattle.dag_forest.specs.declared.entry.Entry.{Entry}
use Rattle.dag_forest.specs.declared.entry.Entry.TheVariants.{Value, Root}
use Rattle.dag_forest.specs.declared.parts.Parts.{Parts}
use Rattle.dag_forest.specs.Choice.{Room, room_by, next_by, is_wanted, wants, times_of, counts, late, is_handed, reads_by, chosen, rooms_to}
use Rattle.dag_forest.specs.Emission.{AreOnce}
use Rattle.dag_forest.specs.Schedules.{waits, is_in, parted, reversed, kids_list, kids_of, number_of, with_below, with_other, in_turn, all_uses, used, acts_of, at}
use Rattle.dag_forest.specs.Split.{room_count}
use Rattle.dag_forest.specs.Tally.{node_count}
use Rattle.dag_seam.specs.Turns.{Makes}
use Rattle.dag_seam.specs.Rooms.{IsMade}
use Rattle.dag_forest.proofs.lemmas.Maps.{at_new, at_old}
use Rattle.dag_forest.proofs.lemmas.Chosen.{at_case}
use Rattle.std.proofs.lemmas.Option.{none-some}
use Rattle.dag_seam.proofs.lemmas.Once.{not_again}

pub is_made_makes : (xs : List Act) (m : ℕ) (y : Parts) (later : List Act) → IsMade xs m y later → Makes m xs
is_made_makes [] m y later h = h
is_made_makes (Made n x ∷ xs) m y later h = ⊎_elim (λ e. inl e.0) (λ e. inr (is_made_makes xs m y later e)) h
is_made_makes (Acts x ∷ xs) m y later h = is_made_makes xs m y later h

-- what a room at a place is
abbrev pub IsRoomAt : Option Room → ℕ → Parts → List Act → Type 0
IsRoomAt k n x later = (t : ℕ) × (reads : Bool) × (k ≡ room_by (wants x (times_of (counts later n)) (late later n) (is_handed later n) reads) x t)

pub room_is : (xs : List Act) (made reads : ℕ → Bool) (t : ℕ) → AreOnce xs made → (n : ℕ) (x : Parts) (later : List Act) → IsMade xs n x later → IsRoomAt (chosen xs reads t n) n x later
room_is [] made reads t once n x later h = absurd h
room_is (Made m y ∷ xs) made reads t once n x later h =
    let w = is_wanted xs reads m y in
    let reads' = at reads m (not w && reads_by reads y) in
    let rest = chosen xs reads' (next_by w t) in
    ⊎_elim
    (λ e. subst (λ z. IsRoomAt (chosen (Made m y ∷ xs) reads t n) n z later) e.1
    (subst (λ z. IsRoomAt (chosen (Made m y ∷ xs) reads t n) n y z) e.2
    (subst (λ z. IsRoomAt (chosen (Made m y ∷ xs) reads t z) z y xs) (sym e.0) (t, reads_by reads y, at_new rest m (room_by w y t)))))
    (λ e. subst (λ z. IsRoomAt z n x later) (sym (at_old rest m (room_by w y t) n (λ q. not_again xs made m once.1 (subst (λ z. Makes z xs) q (is_made_makes xs n x later e)))))
    (room_is xs (at made m true) reads' (next_by w t) once.1 n x later e))
    h
room_is (Acts y ∷ xs) made reads t once n x later h = room_is xs made reads t once n x later h

-- where a room is
pub room_made : (xs : List Act) (reads : ℕ → Bool) (t : ℕ) (n : ℕ) (r : Room) → chosen xs reads t n ≡ Some r → (x : Parts) × (later : List Act) × IsMade xs n x later
room_made [] reads t n r e = absurd (none-some r e)
room_made (Made m y ∷ xs) reads t n r e =
    let w = is_wanted xs reads m y in
    let reads' = at reads m (not w && reads_by reads y) in
    ⊎_elim
    (λ q. (y, xs, inl (q.0, refl, refl)))
    (λ q. let z = room_made xs reads' (next_by w t) n r q in (z.0, z.1, inr z.2))
    (at_case (chosen xs reads' (next_by w t)) m n (room_by w y t) r e)
room_made (Acts y ∷ xs) reads t n r e = room_made xs reads t n r e

-- ---- how many

-- how many nodes are made
abbrev pub made_count : List Act → ℕ
made_count [] = 0
made_count (Made n x ∷ xs) = suc (made_count xs)
made_count (Acts x ∷ xs) = made_count xs

rooms_few : (xs : List Act) (reads : ℕ → Bool) (t : ℕ) → rooms_to xs reads t ≤ t + made_count xs
rooms_few [] reads t = omega arith
rooms_few (Made n x ∷ xs) reads t = by (is_wanted xs reads n x) (rooms_to (Made n x ∷ xs) reads t) (rooms_few xs (at reads n (not (is_wanted xs reads n x) && reads_by reads x)) (next_by (is_wanted xs reads n x) t))
  where
    by : (w : Bool) (u : ℕ) → u ≤ next_by w t + made_count xs → u ≤ t + suc (made_count xs)
    by false u h = omega (arith, h)
    by true u h = omega (arith, h)
rooms_few (Acts x ∷ xs) reads t = rooms_few xs reads t

count_one : (a : Act) (xs : List Act) → made_count (a ∷ xs) ≡ made_count (a ∷ []) + made_count xs
count_one (Made n x) xs = omega arith
count_one (Acts x) xs = omega arith

count_append : (xs ys : List Act) → made_count (xs ++ ys) ≡ made_count xs + made_count ys
count_append [] ys = omega arith
count_append (Made n x ∷ xs) ys = let h = count_append xs ys in omega (arith, h)
count_append (Acts x ∷ xs) ys = count_append xs ys

count_reversed : (xs : List Act) → made_count (reversed xs) ≡ made_count xs
count_reversed [] = refl
count_reversed (a ∷ xs) = let h = count_reversed xs in let e = count_append (reversed xs) (a ∷ []) in let o = count_one a xs in omega (arith, h, e, o)

count_parted : (ns : List ℕ) (xs : List Act) → made_count (parted ns xs).below + made_count (parted ns xs).others ≡ made_count xs
count_parted ns [] = omega arith
count_parted ns (a ∷ xs) = by (is_in (number_of a) ns) (count_parted (ns ++ kids_list (kids_of a)) xs) (count_parted ns xs)
  where
    by : (b : Bool) → made_count (parted (ns ++ kids_list (kids_of a)) xs).below + made_count (parted (ns ++ kids_list (kids_of a)) xs).others ≡ made_count xs → made_count (parted ns xs).below + made_count (parted ns xs).others ≡ made_count xs
        → made_count (if b then with_below a (parted (ns ++ kids_list (kids_of a)) xs) else with_other a (parted ns xs)).below + made_count (if b then with_below a (parted (ns ++ kids_list (kids_of a)) xs) else with_other a (parted ns xs)).others ≡ made_count (a ∷ xs)
    by true h g = let e = count_append (parted (ns ++ kids_list (kids_of a)) xs).below (a ∷ []) in let o = count_one a xs in omega (arith, h, e, o)
    by false h g = let e = count_append (parted ns xs).others (a ∷ []) in let o = count_one a xs in omega (arith, g, e, o)

count_turn : (es : List Entry) (n : ℕ) (pending : List Act) → made_count (in_turn es n pending) ≤ made_count pending + node_count es
count_turn [] n pending = omega arith
count_turn (Value x ∷ es) n pending = by (waits x pending) (count_turn es (suc n) (pending ++ Made n x ∷ [])) (count_turn es (suc n) pending)
  where
    by : (b : Bool) → made_count (in_turn es (suc n) (pending ++ Made n x ∷ [])) ≤ made_count (pending ++ Made n x ∷ []) + node_count es → made_count (in_turn es (suc n) pending) ≤ made_count pending + node_count es
        → made_count (if b then in_turn es (suc n) (pending ++ Made n x ∷ []) else Made n x ∷ in_turn es (suc n) pending) ≤ made_count pending + suc (node_count es)
    by true h g = let e = count_append pending (Made n x ∷ []) in omega (arith, h, e)
    by false h g = omega (arith, g)
count_turn (Root x ∷ es) n pending =
    let p = parted (kids_list x.kids) (reversed pending) in
    let h = count_turn es n p.others in
    let e = count_append p.below (Acts x ∷ in_turn es n p.others) in
    let k = count_parted (kids_list x.kids) (reversed pending) in
    let r = count_reversed pending in
    omega (arith, h, e, k, r)

count_used : (xs : List Act) → made_count (used xs) ≤ made_count xs
count_used [] = omega arith
count_used (Made n x ∷ xs) = by (is_in n (all_uses (used xs))) (count_used xs)
  where
    by : (b : Bool) → made_count (used xs) ≤ made_count xs → made_count (if b then Made n x ∷ used xs else used xs) ≤ suc (made_count xs)
    by true h = omega (arith, h)
    by false h = omega (arith, h)
count_used (Acts x ∷ xs) = count_used xs

pub few_rooms : (es : List Entry) → room_count es ≤ node_count es
few_rooms es =
    let a = rooms_few (acts_of es) (λ m. false) 0 in
    let b = count_used (in_turn es 0 []) in
    let c = count_turn es 0 [] in
    omega (arith, a, b, c)
