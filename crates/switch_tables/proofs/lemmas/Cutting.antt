-- Cases in rising order, cut into groups.
use Rattle.std.proofs.Common.{◌≡◌, ◌≢◌, ℕ, zero, suc, ◌+◌, ◌*◌, ◌^◌, ◌<◌, ◌≤◌, nat_le, Bool, true, false, List, [], ◌∷◌, ◌++◌, length, map, take, drop, get_or, refl, sym, ap, ◌∙◌, arith, append_assoc, length-append}
use Rattle.std.proofs.lemmas.Bool.{leb-true}
use Rattle.std.proofs.lemmas.List.{length_push, length-take-le, take_more, drop_more, drop_all}
use Rattle.std.proofs.lemmas.List.Sums.{sum_by-cons}
use Rattle.std.specs.Prelude.{if◌then◌else◌}
use Rattle.std.specs.List.{AllByRecursion}
use Rattle.c_meaning.specs.declared.core_stmt.CoreCase.{CoreCase}
use Rattle.switch_tables.specs.Cases.{AreWords}
use Rattle.switch_tables.specs.Cuts.{offset, range_to, joins, cut_behind, cut, joined}
use Rattle.switch_tables.specs.Tables.{first_number, last_number, table_of, label_count}
use Rattle.switch_tables.specs.Laws.{IsHalfFull}
use Rattle.switch_tables.proofs.lemmas.Labels.{length-labels_from}

-- ---- each case is in one group, in order

joined_cut_behind : (group cases : List CoreCase) → joined (cut_behind group cases) ≡ group ++ cases
joined_cut_behind group [] = refl
joined_cut_behind group (c ∷ cs) = by (joins group c) (joined_cut_behind (group ++ c ∷ []) cs) (joined_cut_behind (c ∷ []) cs)
  where
    by : (q : Bool) → joined (cut_behind (group ++ c ∷ []) cs) ≡ (group ++ c ∷ []) ++ cs → joined (cut_behind (c ∷ []) cs) ≡ c ∷ cs → joined (if q then cut_behind (group ++ c ∷ []) cs else group ∷ cut_behind (c ∷ []) cs) ≡ group ++ c ∷ cs
    by true on alone = on ∙ append_assoc group (c ∷ []) cs
    by false on alone = ap (λ l. group ++ l) alone

pub joined_cut : (cases : List CoreCase) → joined (cut cases) ≡ cases
joined_cut [] = refl
joined_cut (c ∷ cs) = joined_cut_behind (c ∷ []) cs

-- ---- each group has a case, and at least half of its numbers are cases

-- it has a first case
abbrev pub HasFirst : List CoreCase → Type 0
HasFirst group = (c : CoreCase) × (cs : List CoreCase) × (group ≡ c ∷ cs)

firsts_behind : (f : CoreCase) (group cases : List CoreCase) → AllByRecursion HasFirst (cut_behind (f ∷ group) cases)
firsts_behind f group [] = ((f, group, refl), tt)
firsts_behind f group (c ∷ cs) = by (joins (f ∷ group) c) (firsts_behind f (group ++ c ∷ []) cs) (firsts_behind c [] cs)
  where
    by : (q : Bool) → AllByRecursion HasFirst (cut_behind (f ∷ (group ++ c ∷ [])) cs) → AllByRecursion HasFirst (cut_behind (c ∷ []) cs) → AllByRecursion HasFirst (if q then cut_behind (f ∷ (group ++ c ∷ [])) cs else (f ∷ group) ∷ cut_behind (c ∷ []) cs)
    by true on alone = on
    by false on alone = ((f, group, refl), alone)

pub cut_has_firsts : (cases : List CoreCase) → AllByRecursion HasFirst (cut cases)
cut_has_firsts [] = tt
cut_has_firsts (c ∷ cs) = firsts_behind c [] cs

last_is : (f : CoreCase) (group : List CoreCase) (c : CoreCase) → last_number (f ∷ (group ++ c ∷ [])) ≡ c.number
last_is f [] c = refl
last_is f (g ∷ group) c = last_is g group c

alone_is_full : (c : CoreCase) → c.number < 2 ^ 32 → IsHalfFull (c ∷ [])
alone_is_full c w = omega arith

half_full_behind : (f : CoreCase) (group cases : List CoreCase) → AreWords cases → IsHalfFull (f ∷ group) → AllByRecursion IsHalfFull (cut_behind (f ∷ group) cases)
half_full_behind f group [] ws h = (h, tt)
half_full_behind f group (c ∷ cs) ws h =
    by (joins (f ∷ group) c) refl (λ k. half_full_behind f (group ++ c ∷ []) cs ws.1 k) (half_full_behind c [] cs ws.1 (alone_is_full c ws.0))
  where
    by : (q : Bool) → joins (f ∷ group) c ≡ q → (IsHalfFull (f ∷ (group ++ c ∷ [])) → AllByRecursion IsHalfFull (cut_behind (f ∷ (group ++ c ∷ [])) cs)) → AllByRecursion IsHalfFull (cut_behind (c ∷ []) cs) → AllByRecursion IsHalfFull (if q then cut_behind (f ∷ (group ++ c ∷ [])) cs else (f ∷ group) ∷ cut_behind (c ∷ []) cs)
    by true e on alone =
        let fits = leb-true (offset f.number c.number + 1) (2 * (length (f ∷ group) + 1)) e in
        on (omega (arith, fits, ap (offset f.number) (last_is f group c), length_push group c))
    by false e on alone = (h, alone)

pub cut_is_half_full : (cases : List CoreCase) → AreWords cases → AllByRecursion IsHalfFull (cut cases)
cut_is_half_full [] ws = tt
cut_is_half_full (c ∷ cs) ws = half_full_behind c [] cs ws.1 (alone_is_full c ws.0)

pub labels_are_few : (default : ℕ) (groups : List (List CoreCase)) → AllByRecursion IsHalfFull groups → label_count (map (table_of default) groups) ≤ 2 * length (joined groups)
labels_are_few default [] h = omega arith
labels_are_few default (g ∷ gs) h =
    omega (
      arith,
      h.0,
      labels_are_few default gs h.1,
      sum_by-cons (λ t. length t.labels) (table_of default g) (map (table_of default) gs),
      length-labels_from g default (first_number g) (range_to g (last_number g)),
      length-append g (joined gs),
    )

-- ---- the first group

pub cut_begins : (cases : List CoreCase) → cases ≢ [] → cut_behind (take 1 cases) (drop 1 cases) ≡ cut cases
cut_begins [] h = absurd (h refl)
cut_begins (c ∷ cs) h = refl

range_of_front : (cases : List CoreCase) (n m : ℕ) → 0 < n → cases ≢ [] → range_to (take n cases) m ≡ offset (first_number cases) m + 1
range_of_front [] n m l h = absurd (h refl)
range_of_front (c ∷ cs) zero m l h = absurd (omega arith)
range_of_front (c ∷ cs) (suc n) m l h = refl

pub joins_front : (cases : List CoreCase) (n : ℕ) (c : CoreCase) → 0 < n → n ≤ length cases → joins (take n cases) c ≡ nat_le (offset (first_number cases) c.number + 1) (2 * (n + 1))
joins_front cases n c l m =
    ap (λ r. nat_le r (2 * (length (take n cases) + 1))) (range_of_front cases n c.number l (λ e. absurd (omega (arith, ap length e))))
    ∙ ap (λ k. nat_le (offset (first_number cases) c.number + 1) (2 * (k + 1))) (length-take-le n cases m)

at_split : (cases : List CoreCase) (n : ℕ) (d : CoreCase) → n < length cases → cut_behind (take n cases) (drop n cases) ≡ (if joins (take n cases) (get_or cases n d) then cut_behind (take n cases ++ get_or cases n d ∷ []) (drop (n + 1) cases) else take n cases ∷ cut (get_or cases n d ∷ drop (n + 1) cases))
at_split cases n d l = ap (cut_behind (take n cases)) (drop_more cases n d l)

pub cut_goes_on : (cases : List CoreCase) (n : ℕ) (d : CoreCase) → n < length cases → joins (take n cases) (get_or cases n d) ≡ true → cut_behind (take (n + 1) cases) (drop (n + 1) cases) ≡ cut_behind (take n cases) (drop n cases)
cut_goes_on cases n d l h =
    ap (λ g. cut_behind g (drop (n + 1) cases)) (take_more cases n d l)
    ∙ sym (at_split cases n d l ∙ ap (λ q. if q then cut_behind (take n cases ++ get_or cases n d ∷ []) (drop (n + 1) cases) else take n cases ∷ cut (get_or cases n d ∷ drop (n + 1) cases)) h)

pub cut_ends : (cases : List CoreCase) (n : ℕ) (d : CoreCase) → n < length cases → joins (take n cases) (get_or cases n d) ≡ false → cut_behind (take n cases) (drop n cases) ≡ take n cases ∷ cut (drop n cases)
cut_ends cases n d l h =
    at_split cases n d l
    ∙ (ap (λ q. if q then cut_behind (take n cases ++ get_or cases n d ∷ []) (drop (n + 1) cases) else take n cases ∷ cut (get_or cases n d ∷ drop (n + 1) cases)) h
    ∙ ap (λ rest. take n cases ∷ cut rest) (sym (drop_more cases n d l)))

pub cut_ends_last : (cases : List CoreCase) (n : ℕ) → length cases ≤ n → cut_behind (take n cases) (drop n cases) ≡ take n cases ∷ cut (drop n cases)
cut_ends_last cases n l =
    ap (cut_behind (take n cases)) (drop_all n cases l) ∙ ap (λ rest. take n cases ∷ cut rest) (sym (drop_all n cases l))
