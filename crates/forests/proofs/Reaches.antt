-- What the slots of a frame reach, in the order of their places.
use Rattle.std.proofs.Common.{◌≡◌, ◌↔◌, ◌⊎◌, ℕ, zero, suc, ◌+◌, ◌-◌, ◌≤◌, ◌<◌, ℤ, ◌≤ℤ◌, ◌<ℤ◌, Bool, true, false, Some, List, [], ◌∷◌, ◌++◌, length, drop, slice_get, slice_index_or, inl, inr, refl, sym, ap, ◌∙◌, arith, subst, add-one, append_assoc, append-nil, drop-cons}
use Rattle.std.proofs.lemmas.Int.{ints}
use Rattle.std.proofs.lemmas.Cmp.{int_cmp_total, int_ranked}
use Rattle.std.proofs.lemmas.List.Sorted.{ranks_by, sorted_far, Contains-permutation, IsPermutation-sym}
use Rattle.std.proofs.lemmas.Option.{slice_get_within, slice_get-get_or, get_or_from_slice_get}
use Rattle.std.specs.Prelude.{int_le, if◌then◌else◌}
use Rattle.std.specs.declared.cmp.Ordering.{Ordering}
use Rattle.std.specs.declared.cmp.Ordering.TheVariants.{Less, Equal, Greater}
use Rattle.std.specs.Ordering.{MatchOrdering, int_cmp, is_lt}
use Rattle.std.specs.List.Sorted.{IsPartitionedBy, IsPartitionPoint, IsPermutation, IsSortedByKey}
use Rattle.op_forest.specs.declared.frame.Slot.{Slot}
use Rattle.op_forest.specs.Frames.{end_of}
use Rattle.forests.specs.declared.slots.Reach.{Reach}
use Rattle.forests.specs.SlotTables.{IsReached, greater, reaches_from, reaches, AreInOrder, IsTable}
use Rattle.forests.specs.WellFormed.{LiesIn, LiesInOne}

-- ---- the greater of two

greater_least : (a b : ℤ) → (a ≤ℤ greater a b) × (b ≤ℤ greater a b)
greater_least a b = by (int_le a b) refl
  where
    by : (q : Bool) → int_le a b ≡ q → (a ≤ℤ (if q then b else a)) × (b ≤ℤ (if q then b else a))
    by true e = (omega (arith, ints, e), omega (arith, ints))
    by false e = (omega (arith, ints), omega (arith, ints, e))

greater_one : (z a b : ℤ) → z <ℤ greater a b → (z <ℤ a) ⊎ (z <ℤ b)
greater_one z a b = by (int_le a b)
  where
    by : (q : Bool) → z <ℤ (if q then b else a) → (z <ℤ a) ⊎ (z <ℤ b)
    by true h = inr h
    by false h = inl h

-- ---- slots by their places

abbrev pub HasOne : List Slot → ℤ → Type 0
HasOne slots z = (k : ℕ) × (s : Slot) × (slice_get slots k ≡ Some s) × LiesIn z s

one_of : (slots : List Slot) (z : ℤ) → LiesInOne slots z → HasOne slots z
one_of slots z h = (h.0, h.1, slice_get-get_or slots h.0 h.1 h.2 ∙ ap (λ (s : Slot). Some s) h.3, h.4)

of_one : (slots : List Slot) (z : ℤ) → HasOne slots z → LiesInOne slots z
of_one slots z h = (h.0, h.1, slice_get_within slots h.0 h.1 h.2, get_or_from_slice_get slots h.0 h.1 h.1 h.2, h.3)

-- none begins before the one before it, nor the first before a place
abbrev pub Rises : ℤ → List Slot → Type 0
Rises low [] = Unit {0}
Rises low (s ∷ ss) = (low ≤ℤ s.offset) × Rises s.offset ss

rises : (slots : List Slot) (low : ℤ) → AreInOrder slots → ((i : ℕ) (s : Slot) → slice_get slots i ≡ Some s → low ≤ℤ s.offset) → Rises low slots
rises [] low order least = tt
rises (s ∷ ss) low order least =
    (least 0 s refl, rises ss s.offset (λ i j a b l e f. order (suc i) (suc j) a b (omega (arith, l)) e f) (λ i t e. order 0 (suc i) s t (omega arith) refl e))

-- ---- what each of them reaches

-- a slot's own start, and its end or a further one
abbrev Reached : Slot → Reach → Type 0
Reached s r = (r.start ≡ s.offset) × (end_of s ≤ℤ r.end)

slot_at : (e : ℤ) (ss : List Slot) (i : ℕ) (r : Reach) → slice_get (reaches_from e ss) i ≡ Some r → (s : Slot) × (slice_get ss i ≡ Some s) × Reached s r
slot_at e [] i r h = absurd (let no : ⊥ = cc in no)
slot_at e (s ∷ ss) zero r h = let q : record { start = s.offset; end = greater e (end_of s) } ≡ r = cc in (s, refl, subst (λ (x : Reach). Reached s x) q (refl, (greater_least e (end_of s)).1))
slot_at e (s ∷ ss) (suc i) r h = slot_at (greater e (end_of s)) ss i r h

reach_at : (e : ℤ) (ss : List Slot) (i : ℕ) (s : Slot) → slice_get ss i ≡ Some s → (r : Reach) × (slice_get (reaches_from e ss) i ≡ Some r) × Reached s r
reach_at e [] i s h = absurd (let no : ⊥ = cc in no)
reach_at e (t ∷ ss) zero s h = let q : t ≡ s = cc in (record { start = t.offset; end = greater e (end_of t) }, refl, subst (λ (x : Slot). Reached x (record { start = t.offset; end = greater e (end_of t) })) q (refl, (greater_least e (end_of t)).1))
reach_at e (t ∷ ss) (suc i) s h = reach_at (greater e (end_of t)) ss i s h

end_least : (e : ℤ) (ss : List Slot) (i : ℕ) (r : Reach) → slice_get (reaches_from e ss) i ≡ Some r → e ≤ℤ r.end
end_least e [] i r h = absurd (let no : ⊥ = cc in no)
end_least e (s ∷ ss) zero r h = let q : record { start = s.offset; end = greater e (end_of s) } ≡ r = cc in subst (λ (x : Reach). e ≤ℤ x.end) q (greater_least e (end_of s)).0
end_least e (s ∷ ss) (suc i) r h =
    let further = end_least (greater e (end_of s)) ss i r h in
    let first = (greater_least e (end_of s)).0 in
    omega (arith, ints, further, first)

ends_rise : (e : ℤ) (ss : List Slot) (i j : ℕ) (a b : Reach) → i ≤ j → slice_get (reaches_from e ss) i ≡ Some a → slice_get (reaches_from e ss) j ≡ Some b → a.end ≤ℤ b.end
ends_rise e [] i j a b l h k = absurd (let no : ⊥ = cc in no)
ends_rise e (s ∷ ss) zero zero a b l h k = let q : a ≡ b = cc in subst (λ (x : Reach). a.end ≤ℤ x.end) q (omega (arith, ints))
ends_rise e (s ∷ ss) zero (suc j) a b l h k =
    let q : record { start = s.offset; end = greater e (end_of s) } ≡ a = cc in
    subst (λ (x : Reach). x.end ≤ℤ b.end) q (end_least (greater e (end_of s)) ss j b k)
ends_rise e (s ∷ ss) (suc i) zero a b l h k = absurd (let no : ⊥ = omega (arith, l) in no)
ends_rise e (s ∷ ss) (suc i) (suc j) a b l h k = ends_rise (greater e (end_of s)) ss i j a b (omega (arith, l)) h k

-- what is reached lies in a slot, or ends before the slots
abbrev Found : ℤ → ℤ → List Slot → ℤ → Type 0
Found low e ss z = HasOne ss z ⊎ ((z <ℤ e) × (low ≤ℤ z))

later : (low e z : ℤ) (s : Slot) (ss : List Slot) → low ≤ℤ s.offset → Found s.offset (greater e (end_of s)) ss z → Found low e (s ∷ ss) z
later low e z s ss l (inl h) = inl (suc h.0, h.1, h.2, h.3)
later low e z s ss l (inr h) =
    elim (greater_one z e (end_of s) h.0) [
      | inl k ↦ (let m = h.1 in inr (k, omega (arith, ints, l, m)))
      | inr k ↦ inl (0, s, refl, (h.1, k))
    ]

found : (low e z : ℤ) (ss : List Slot) (i : ℕ) (r : Reach) → Rises low ss → slice_get (reaches_from e ss) i ≡ Some r → IsReached z r → Found low e ss z
found low e z [] i r up h k = absurd (let no : ⊥ = cc in no)
found low e z (s ∷ ss) zero r up h k =
    let q : r ≡ record { start = s.offset; end = greater e (end_of s) } = cc in
    let is : IsReached z (record { start = s.offset; end = greater e (end_of s) }) = subst (λ (x : Reach). IsReached z x) q k in
    let l = up.0 in
    let m = is.0 in
    elim (greater_one z e (end_of s) is.1) [
      | inl b ↦ inr (b, omega (arith, ints, l, m))
      | inr b ↦ inl (0, s, refl, (m, b))
    ]
found low e z (s ∷ ss) (suc i) r up h k = later low e z s ss up.0 (found s.offset (greater e (end_of s)) z ss i r up.1 h k)

-- ---- the table

abbrev InTable : List Reach → ℤ → Type 0
InTable table z = (i : ℕ) × (r : Reach) × (slice_get table i ≡ Some r) × IsReached z r

starts_rise : (e : ℤ) (ss : List Slot) → AreInOrder ss → (i j : ℕ) (a b : Reach) → i ≤ j → slice_get (reaches_from e ss) i ≡ Some a → slice_get (reaches_from e ss) j ≡ Some b → a.start ≤ℤ b.start
starts_rise e ss order i j a b l h k =
    let x = slot_at e ss i a h in
    let y = slot_at e ss j b k in
    let m = order i j x.0 y.0 l x.1 y.1 in
    let p = x.2.0 in
    let q = y.2.0 in
    omega (arith, ints, m, p, q)

one_in_table : (e z : ℤ) (ss : List Slot) → HasOne ss z → InTable (reaches_from e ss) z
one_in_table e z ss h =
    let x = reach_at e ss h.0 h.1 h.2 in
    let p = x.2.0 in
    let q = x.2.1 in
    let low = h.3.0 in
    let high = h.3.1 in
    (h.0, x.0, x.1, (omega (arith, ints, p, low), omega (arith, ints, q, high)))

table_one : (s : Slot) (ss : List Slot) (z : ℤ) → AreInOrder (s ∷ ss) → InTable (reaches (s ∷ ss)) z → HasOne (s ∷ ss) z
table_one s ss z order h =
    let up = rises (s ∷ ss) s.offset order (λ i t e. order 0 i s t (omega arith) refl e) in
    elim (found s.offset s.offset z (s ∷ ss) h.0 h.1 up h.2 h.3) [
      | inl k ↦ k
      | inr k ↦ absurd (let a = k.0 in let b = k.1 in let no : ⊥ = omega (arith, ints, a, b) in no)
    ]

sorted_table : (sorted : List Slot) → AreInOrder sorted → IsTable sorted (reaches sorted)
sorted_table [] order = record {
  starts = λ i j a b l h k. absurd (let no : ⊥ = cc in no);
  ends = λ i j a b l h k. absurd (let no : ⊥ = cc in no);
  same = λ z. (λ h. absurd (let e = (one_of [] z h).2 in let no : ⊥ = cc in no), λ h. absurd (let e = h.2 in let no : ⊥ = cc in no));
}
sorted_table (s ∷ ss) order = record {
  starts = starts_rise s.offset (s ∷ ss) order;
  ends = ends_rise s.offset (s ∷ ss);
  same = λ z. (λ h. one_in_table s.offset z (s ∷ ss) (one_of (s ∷ ss) z h), λ h. of_one (s ∷ ss) z (table_one s ss z order h));
}

-- the table of slots that were put in order
pub table_is : (slots sorted : List Slot) (table : List Reach) → AreInOrder sorted → ((z : ℤ) → LiesInOne slots z ↔ LiesInOne sorted z) → table ≡ reaches sorted → IsTable slots table
table_is slots sorted table order same e =
    let t = sorted_table sorted order in
    subst (λ (x : List Reach). IsTable slots x) (sym e) (record {
      starts = t.starts;
      ends = t.ends;
      same = λ z. (λ h. (t.same z).0 ((same z).0 h), λ h. (same z).1 ((t.same z).1 h));
    })

-- ---- the search by halves

abbrev pub starts_by : ℤ → Reach → Bool
starts_by z r = int_le r.start z

starts_so : (z : ℤ) (r : Reach) → r.start ≤ℤ z → starts_by z r ≡ true
starts_so z r l = by (int_le r.start z) refl
  where
    by : (q : Bool) → int_le r.start z ≡ q → q ≡ true
    by true e = refl
    by false e = absurd (let no : ⊥ = omega (arith, ints, l, e) in no)

pub parted : (slots : List Slot) (table : List Reach) (z : ℤ) → IsTable slots table → IsPartitionedBy (starts_by z) table
parted slots table z t i j d l within up =
    let a = slice_get-get_or table i d (omega (arith, l, within)) in
    let b = slice_get-get_or table j d within in
    let m = t.starts i j (slice_index_or table i d) (slice_index_or table j d) l a b in
    starts_so z (slice_index_or table i d) (omega (arith, ints, m, up))

-- behind the point where starts are above the offset nothing reaches it, and before it the last reaches furthest
pub none_started : (slots : List Slot) (table : List Reach) (z : ℤ) (k : ℕ) → IsTable slots table → IsPartitionPoint (λ r. starts_by z r ≡ true) (λ r. starts_by z r ≡ false) table k → k ≡ 0 → LiesInOne slots z → ⊥
none_started slots table z k t point none h =
    let x = (t.same z).0 h in
    let within = slice_get_within table x.0 x.1 x.2 in
    let e = point.1 x.0 x.1 (omega (arith, none)) within in
    let f = get_or_from_slice_get table x.0 x.1 x.1 x.2 in
    let g : starts_by z x.1 ≡ false = sym (ap (starts_by z) f) ∙ e in
    let low = x.3.0 in
    omega (arith, ints, g, low)

ordered : (a b : ℕ) → (a < b) ⊎ (b ≤ a)
ordered zero zero = inr (omega arith)
ordered zero (suc b) = inl (omega arith)
ordered (suc a) zero = inr (omega arith)
ordered (suc a) (suc b) = elim (ordered a b) [ inl l ↦ inl (omega (arith, l)) | inr l ↦ inr (omega (arith, l)) ]

pub last_started : (slots : List Slot) (table : List Reach) (z : ℤ) (k : ℕ) (r : Reach) → IsTable slots table → IsPartitionPoint (λ r. starts_by z r ≡ true) (λ r. starts_by z r ≡ false) table k → 0 < k → k ≤ length table → r ≡ slice_index_or table (k - 1) r → (z <ℤ r.end) ↔ LiesInOne slots z
last_started slots table z k r t point some most is =
    let there : slice_get table (k - 1) ≡ Some r = slice_get-get_or table (k - 1) r (omega (arith, some, most)) ∙ ap (λ (x : Reach). Some x) (sym is) in
    let up : starts_by z r ≡ true = ap (starts_by z) is ∙ point.0 (k - 1) r (omega arith) (omega (arith, some)) in
    (λ h. (t.same z).1 (k - 1, r, there, (omega (arith, ints, up), h)), λ h. furthest ((t.same z).0 h) there)
  where
    furthest : InTable table z → slice_get table (k - 1) ≡ Some r → z <ℤ r.end
    furthest x there =
        let within = slice_get_within table x.0 x.1 x.2 in
        let f = get_or_from_slice_get table x.0 x.1 x.1 x.2 in
        let low = x.3.0 in
        let high = x.3.1 in
        let before : x.0 < k = elim (ordered x.0 k) [
          | inl l ↦ l
          | inr l ↦ (
              let e = point.1 x.0 x.1 l within in
              let g : starts_by z x.1 ≡ false = sym (ap (starts_by z) f) ∙ e in
              let no : ⊥ = omega (arith, ints, g, low) in
              absurd no
              )
        ] in
        let m = t.ends x.0 (k - 1) x.1 r (omega (arith, before)) x.2 there in
        omega (arith, ints, m, high)

-- ---- the slots are put in order

not_less : (a b : ℤ) → is_lt (int_cmp a b) ≡ false → b ≤ℤ a
not_less a b = by (int_cmp a b) (int_ranked a b (int_cmp a b) refl)
  where
    by : (r : Ordering) → MatchOrdering r (a <ℤ b) (a ≡ b) (b <ℤ a) → is_lt r ≡ false → b ≤ℤ a
    by Less l e = absurd (let no : ⊥ = cc in no)
    by Equal l e = omega (arith, ints, l)
    by Greater l e = omega (arith, ints, l)

-- slots that were sorted by their places are in order
pub order_is : (slots : List Slot) → IsSortedByKey (λ (s : Slot). s.offset) int_cmp slots → AreInOrder slots
order_is slots up i j s t l e f =
    let far = sorted_far (λ (x y : Slot). is_lt (int_cmp x.offset y.offset)) (ranks_by int_cmp_total (λ (x : Slot). x.offset)) slots up i j s l (slice_get_within slots j t f) in
    let first : slice_index_or slots i s ≡ s = get_or_from_slice_get slots i s s e in
    let second : slice_index_or slots j s ≡ t = get_or_from_slice_get slots j t s f in
    not_less t.offset s.offset (sym (ap (λ (x : Slot). is_lt (int_cmp x.offset (slice_index_or slots i s).offset)) second ∙ ap (λ (x : Slot). is_lt (int_cmp t.offset x.offset)) first) ∙ far)

moved : (z : ℤ) (xs ys : List Slot) → IsPermutation xs ys → LiesInOne xs z → LiesInOne ys z
moved z xs ys p h = let c = Contains-permutation xs ys h.1 p (h.0, h.2, h.3) in (c.0, h.1, c.1, c.2, h.4)

-- an offset lies in a slot whatever their order is
pub same_slots : (xs ys : List Slot) → IsPermutation xs ys → (z : ℤ) → LiesInOne xs z ↔ LiesInOne ys z
same_slots xs ys p z = (moved z xs ys p, moved z ys xs (IsPermutation-sym xs ys p))

-- ---- the loop that tells what they reach

pub reaches_start : (sorted : List Slot) (e : ℤ) → ((s : Slot) (ss : List Slot) → sorted ≡ s ∷ ss → e ≡ s.offset) → reaches_from e sorted ≡ reaches sorted
reaches_start [] e h = refl
reaches_start (s ∷ ss) e h = ap (λ (z : ℤ). reaches_from z (s ∷ ss)) (h s ss refl)

pub reaches_more : (sorted : List Slot) (i : ℕ) (d : Slot) (e : ℤ) (table new : List Reach) (r : Reach) → i < length sorted → table ++ reaches_from e (drop i sorted) ≡ reaches sorted → r ≡ record { start = (slice_index_or sorted i d).offset; end = greater e (end_of (slice_index_or sorted i d)) } → new ≡ table ++ r ∷ [] → new ++ reaches_from r.end (drop (i + 1) sorted) ≡ reaches sorted
reaches_more sorted i d e table new r within kept is more =
    let rest = drop (suc i) sorted in
    ap (λ (k : ℕ). new ++ reaches_from r.end (drop k sorted)) (add-one i)
    ∙ ap (λ (l : List Reach). l ++ reaches_from r.end rest) more
    ∙ append_assoc table (r ∷ []) (reaches_from r.end rest)
    ∙ ap (λ (l : List Reach). table ++ l) (ap (λ (x : Reach). x ∷ reaches_from x.end rest) is ∙ ap (reaches_from e) (sym (drop-cons sorted i d within)))
    ∙ kept

pub reaches_end : (sorted : List Slot) (i : ℕ) (e : ℤ) (table : List Reach) → length sorted ≤ i → table ++ reaches_from e (drop i sorted) ≡ reaches sorted → table ≡ reaches sorted
reaches_end sorted i e table past kept =
    sym (ap (λ (l : List Slot). table ++ reaches_from e l) (drop-past sorted i past) ∙ append-nil table) ∙ kept
  where
    drop-past : (l : List Slot) (k : ℕ) → length l ≤ k → drop k l ≡ []
    drop-past [] zero h = refl
    drop-past [] (suc k) h = refl
    drop-past (x ∷ l) zero h = absurd (let no : ⊥ = omega (arith, h) in no)
    drop-past (x ∷ l) (suc k) h = drop-past l k (omega (arith, h))
