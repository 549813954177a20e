-- A frame with new slots, and the place of each.
use Rattle.std.proofs.Common.{◌≡◌, ⊎_elim, ℕ, zero, suc, ◌+◌, ◌*◌, ◌<◌, ℤ, pos, ◌+ℤ◌, ◌-ℤ◌, ◌≤ℤ◌, ◌<ℤ◌, neg_ℤ, Bool, true, false, true≢false, Option, Some, List, [], ◌∷◌, ◌++◌, length, slice_get, inl, inr, refl, sym, ap, ◌∙◌, arith, subst, append_assoc, append-nil, length-append}
use Rattle.std.proofs.lemmas.Bool.{cases_eq}
use Rattle.std.proofs.lemmas.Int.{ints}
use Rattle.std.specs.Prelude.{◌⊎◌, ◌&&◌, int_le, int_lt, if◌then◌else◌}
use Rattle.std.specs.Int.RustNames.{unsigned_abs}
use Rattle.objects.specs.declared.value.Value.TheVariants.{Pointer}
use Rattle.op_forest.specs.declared.frame.Slot.{Slot}
use Rattle.op_forest.specs.Frames.{IsFrame, end_of, lesser, lowest_from, lowest}
use Rattle.forests.specs.Words.{Word, Plain}
use Rattle.forests.specs.Addresses.{lies_in, slot_place}
use Rattle.dag_forest.specs.NewSlots.{offset_below, slot_below, slots_below}
use Rattle.dag_forest.proofs.lemmas.Listed.{snoc_cases}

abbrev pub IsFour : ℤ → Type 0
IsFour z = (k : ℕ) × (z ≡ neg_ℤ (pos (4 * k)))

lesser_le : (a b : ℤ) → (lesser a b ≤ℤ a) × (lesser a b ≤ℤ b)
lesser_le a b = by (int_le a b) refl
  where
    by : (q : Bool) → int_le a b ≡ q → ((if q then a else b) ≤ℤ a) × ((if q then a else b) ≤ℤ b)
    by true e = (omega (arith, ints), omega (arith, ints, e))
    by false e = (omega (arith, ints, e), omega (arith, ints))

lesser_keeps : (P : ℤ → Type 0) (a b : ℤ) → P a → P b → P (lesser a b)
lesser_keeps P a b h g = by (int_le a b)
  where
    by : (q : Bool) → P (if q then a else b)
    by true = h
    by false = g

-- the lowest place is no higher than the frame's top, nor than a slot's first byte
pub lowest_le : (slots : List Slot) (z : ℤ) → (lowest_from z slots ≤ℤ z) × ((i : ℕ) (s : Slot) → slice_get slots i ≡ Some s → lowest_from z slots ≤ℤ s.offset)
lowest_le [] z = (omega (arith, ints), λ i s e. let no : ⊥ = cc in absurd no)
lowest_le (t ∷ ts) z =
    let h = lowest_le ts (lesser z t.offset) in
    let l = lesser_le z t.offset in
    let first = h.0 in let left = l.0 in let right = l.1 in
    (omega (arith, ints, first, left), each (omega (arith, ints, first, right)) h.1)
  where
    each : lowest_from (lesser z t.offset) ts ≤ℤ t.offset → ((i : ℕ) (s : Slot) → slice_get ts i ≡ Some s → lowest_from (lesser z t.offset) ts ≤ℤ s.offset) → (i : ℕ) (s : Slot) → slice_get (t ∷ ts) i ≡ Some s → lowest_from (lesser z t.offset) ts ≤ℤ s.offset
    each here rest zero s e = let q : t ≡ s = cc in subst (λ (u : Slot). lowest_from (lesser z t.offset) ts ≤ℤ u.offset) q here
    each here rest (suc i) s e = rest i s e

pub lowest_four : (slots : List Slot) (z : ℤ) → IsFour z → ((i : ℕ) (s : Slot) → slice_get slots i ≡ Some s → IsFour s.offset) → IsFour (lowest_from z slots)
lowest_four [] z four fours = four
lowest_four (t ∷ ts) z four fours = lowest_four ts (lesser z t.offset) (lesser_keeps IsFour z t.offset four (fours 0 t refl)) (λ i s e. fours (suc i) s e)

below_four : (low : ℤ) (n : ℕ) → IsFour low → IsFour (offset_below low n)
below_four low n four = let e = four.1 in (four.0 + suc n, omega (arith, ints, e))

-- a frame with one slot more, right below the others
pub frame_with : (slots : List Slot) (new : Slot) → IsFrame slots → IsFour new.offset → end_of new ≤ℤ pos 0 → ((i : ℕ) (s : Slot) → slice_get slots i ≡ Some s → end_of new ≤ℤ s.offset) → IsFrame (slots ++ new ∷ [])
frame_with slots new frame four top above = record {
  four = λ i s e. ⊎_elim (λ a. frame.four i s a) (λ b. subst (λ (u : Slot). IsFour u.offset) b.1 four) (snoc_cases slots new s i e);
  ends = λ i s e. ⊎_elim (λ a. frame.ends i s a) (λ b. subst (λ (u : Slot). end_of u ≤ℤ pos 0) b.1 top) (snoc_cases slots new s i e);
  apart = λ i j s t a b. ⊎_elim
      (λ x. ⊎_elim
      (λ y. frame.apart i j s t x y)
      (λ y. inr (inr (subst (λ (u : Slot). end_of u ≤ℤ s.offset) y.1 (above i s x))))
      (snoc_cases slots new t j b))
      (λ x. ⊎_elim
      (λ y. inr (inl (subst (λ (u : Slot). end_of u ≤ℤ t.offset) x.1 (above j t y))))
      (λ y. inl (x.0 ∙ sym y.0))
      (snoc_cases slots new t j b))
      (snoc_cases slots new s i a);
}

record Grown (low : ℤ) (n : ℕ) (slots : List Slot) : Type 0 where
  frame : IsFrame slots
  above : (i : ℕ) (s : Slot) → slice_get slots i ≡ Some s → (offset_below low n +ℤ pos 4) ≤ℤ s.offset

grown_more : (low : ℤ) (n : ℕ) (slots : List Slot) → IsFour low → low ≤ℤ pos 0 → Grown low n slots → Grown low (suc n) (slots ++ slot_below low n ∷ [])
grown_more low n slots four top g = record {
  frame = frame_with slots (slot_below low n) g.frame (below_four low n four) (omega (arith, ints, top)) g.above;
  above = λ i s e. ⊎_elim
      (λ a. let h = g.above i s a in omega (arith, ints, h))
      (λ b. subst (λ (u : Slot). (offset_below low (suc n) +ℤ pos 4) ≤ℤ u.offset) b.1 (omega (arith, ints)))
      (snoc_cases slots (slot_below low n) s i e);
}

grown_frame : (before : List Slot) → IsFrame before → (n : ℕ) → Grown (lowest before) n (before ++ slots_below (lowest before) n)
grown_frame before frame zero = subst (Grown (lowest before) 0) (sym (append-nil before)) (record {
  frame = frame;
  above = λ i s e. let h = (lowest_le before (pos 0)).1 i s e in omega (arith, ints, h);
})
grown_frame before frame (suc n) = subst (Grown (lowest before) (suc n)) (append_assoc before (slots_below (lowest before) n) (slot_below (lowest before) n ∷ []))
    (grown_more (lowest before) n (before ++ slots_below (lowest before) n) (lowest_four before (pos 0) (0, refl) frame.four) (lowest_le before (pos 0)).0 (grown_frame before frame n))

pub frame_below : (before : List Slot) → IsFrame before → (n : ℕ) → IsFrame (before ++ slots_below (lowest before) n)
frame_below before frame n = (grown_frame before frame n).frame

-- ---- the place of a slot

le_so : (a b : ℤ) → a ≤ℤ b → int_le a b ≡ true
le_so a b h = by (int_le a b) refl
  where
    by : (q : Bool) → int_le a b ≡ q → q ≡ true
    by true e = refl
    by false e = absurd (omega (arith, ints, e, h))

le_not : (a b : ℤ) → b <ℤ a → int_le a b ≡ false
le_not a b h = by (int_le a b) refl
  where
    by : (q : Bool) → int_le a b ≡ q → q ≡ false
    by true e = absurd (omega (arith, ints, e, h))
    by false e = refl

lt_so : (a b : ℤ) → a <ℤ b → int_lt a b ≡ true
lt_so a b h = by (int_lt a b) refl
  where
    by : (q : Bool) → int_lt a b ≡ q → q ≡ true
    by true e = refl
    by false e = absurd (omega (arith, ints, e, h))

lt_not : (a b : ℤ) → b ≤ℤ a → int_lt a b ≡ false
lt_not a b h = by (int_lt a b) refl
  where
    by : (q : Bool) → int_lt a b ≡ q → q ≡ false
    by true e = absurd (omega (arith, ints, e, h))
    by false e = refl

and_false : (a b : Bool) → (a ≡ false) ⊎ (b ≡ false) → (a && b) ≡ false
and_false true b h = ⊎_elim (λ e. absurd (true≢false e)) (λ e. e) h
and_false false b h = refl

IsApart : Slot → Slot → Type 0
IsApart s t = (end_of s ≤ℤ t.offset) ⊎ (end_of t ≤ℤ s.offset)

outside : (s t : Slot) → 0 < s.size → (end_of s ≤ℤ t.offset) ⊎ (end_of t ≤ℤ s.offset) → lies_in t s.offset ≡ false
outside s t some h = and_false (int_le t.offset s.offset) (int_lt s.offset (end_of t)) (⊎_elim (λ a. inl (le_not t.offset s.offset (omega (arith, ints, some, a)))) (λ a. inr (lt_not s.offset (end_of t) (omega (arith, ints, a)))) h)

inside : (s : Slot) → 0 < s.size → lies_in s s.offset ≡ true
inside s some = (λ i. le_so s.offset s.offset (omega (arith, ints)) i && lt_so s.offset (end_of s) (omega (arith, ints, some)) i)

word_at : ℕ → ℕ → ℕ → ℕ → Option Word
word_at place made size n = Some (Plain (Pointer (record { place = place; made = made; size = size }) n))

slot_at : (place made : ℕ) (slots : List Slot) (i : ℕ) (s : Slot) → slice_get slots i ≡ Some s → 0 < s.size → ((j : ℕ) (t : Slot) → j < i → slice_get slots j ≡ Some t → (end_of s ≤ℤ t.offset) ⊎ (end_of t ≤ℤ s.offset)) → slot_place place made slots s.offset ≡ Some (Plain (Pointer (record { place = place + i; made = made + i; size = s.size }) 0))
slot_at place made [] i s e some apart = let no : ⊥ = cc in absurd no
slot_at place made (t ∷ ts) zero s e some apart =
    let q : t ≡ s = cc in
    ap (λ u. slot_place place made (u ∷ ts) s.offset) q
    ∙ ap (λ b. if b then Some (Plain (Pointer (record { place = place; made = made; size = s.size }) (unsigned_abs (s.offset -ℤ s.offset)))) else slot_place (suc place) (suc made) ts s.offset) (inside s some)
    ∙ ap (λ n. Some (Plain (Pointer (record { place = place; made = made; size = s.size }) n))) (ap unsigned_abs (let z : s.offset -ℤ s.offset ≡ pos 0 = omega (arith, ints) in z))
    ∙ (let p : place ≡ place + 0 = omega (arith, ints) in let m : made ≡ made + 0 = omega (arith, ints) in λ i. Some (Plain (Pointer (record { place = p i; made = m i; size = s.size }) 0)))
slot_at place made (t ∷ ts) (suc i) s e some apart =
    ap (λ b. if b then Some (Plain (Pointer (record { place = place; made = made; size = t.size }) (unsigned_abs (s.offset -ℤ t.offset)))) else slot_place (suc place) (suc made) ts s.offset) (outside s t some (apart 0 t (omega (arith, ints)) refl))
    ∙ slot_at (suc place) (suc made) ts i s e some (λ j u l h. apart (suc j) u (omega (arith, ints, l)) h)
    ∙ (let p : suc place + i ≡ place + suc i = omega (arith, ints) in let m : suc made + i ≡ made + suc i = omega (arith, ints) in λ k. Some (Plain (Pointer (record { place = p k; made = m k; size = s.size }) 0)))

get_right : {X : Type 0} (xs ys : List X) (n : ℕ) (x : X) → slice_get ys n ≡ Some x → slice_get (xs ++ ys) (length xs + n) ≡ Some x
get_right [] ys n x e = ap (slice_get ys) (let z : 0 + n ≡ n = omega (arith, ints) in z) ∙ e
get_right (y ∷ xs) ys n x e = ap (slice_get (y ∷ (xs ++ ys))) (let z : suc (length xs) + n ≡ suc (length xs + n) = omega (arith, ints) in z) ∙ get_right xs ys n x e

get_left : {X : Type 0} (xs ys : List X) (n : ℕ) (x : X) → slice_get xs n ≡ Some x → slice_get (xs ++ ys) n ≡ Some x
get_left [] ys n x e = let no : ⊥ = cc in absurd no
get_left (y ∷ xs) ys zero x e = e
get_left (y ∷ xs) ys (suc n) x e = get_left xs ys n x e

below_length : (low : ℤ) (n : ℕ) → length (slots_below low n) ≡ n
below_length low zero = refl
below_length low (suc n) = let h = below_length low n in let e = length-append (slots_below low n) (slot_below low n ∷ []) in omega (arith, ints, h, e)

below_get : (low : ℤ) (n k : ℕ) → k < n → slice_get (slots_below low n) k ≡ Some (slot_below low k)
below_get low zero k l = absurd (omega (arith, ints, l))
below_get low (suc n) k l = ⊎_elim
    (λ q. ap (slice_get (slots_below low n ++ slot_below low n ∷ [])) (let h = below_length low n in let z : k ≡ length (slots_below low n) + 0 = omega (arith, ints, q, h) in z) ∙ get_right (slots_below low n) (slot_below low n ∷ []) 0 (slot_below low n) refl ∙ ap (λ z. Some (slot_below low z)) (sym q))
    (λ q. get_left (slots_below low n) (slot_below low n ∷ []) k (slot_below low k) (below_get low n k (omega (arith, ints, l, q))))
    (cases_eq k n)

get_inside : {X : Type 0} (xs ys : List X) (n : ℕ) (x : X) → n < length xs → slice_get (xs ++ ys) n ≡ Some x → slice_get xs n ≡ Some x
get_inside [] ys n x l e = absurd (omega (arith, l))
get_inside (y ∷ xs) ys zero x l e = e
get_inside (y ∷ xs) ys (suc n) x l e = get_inside xs ys n x (omega (arith, l)) e

get_below : {X : Type 0} (xs : List X) (n : ℕ) (x : X) → slice_get xs n ≡ Some x → n < length xs
get_below [] n x e = let no : ⊥ = cc in absurd no
get_below (y ∷ xs) zero x e = omega arith
get_below (y ∷ xs) (suc n) x e = let h = get_below xs n x e in omega (arith, h)

-- also where more slots stand behind
pub place_of : (place made : ℕ) (before more : List Slot) → IsFrame before → (n k : ℕ) → k < n → slot_place place made ((before ++ slots_below (lowest before) n) ++ more) (offset_below (lowest before) k) ≡ Some (Plain (Pointer (record { place = place + (length before + k); made = made + (length before + k); size = 4 }) 0))
place_of place made before more frame n k l =
    let slots = before ++ slots_below (lowest before) n in
    let s = slot_below (lowest before) k in
    let here : slice_get slots (length before + k) ≡ Some s = get_right before (slots_below (lowest before) n) k s (below_get (lowest before) n k l) in
    let within = get_below slots (length before + k) s here in
    slot_at place made (slots ++ more) (length before + k) s (get_left slots more (length before + k) s here) (omega (arith, ints))
    (λ j t lt e. ⊎_elim (λ q. absurd (omega (arith, ints, q, lt))) (λ q. q) ((frame_below before frame n).apart (length before + k) j s t here (get_inside slots more j t (omega (arith, lt, within)) e)))
