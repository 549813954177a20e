-- The frame grows down by four bytes for each slot.
use Rattle.std.specs.Prelude.{◌≡◌, ℕ, zero, suc, ◌+◌, ◌*◌, Bool, true, false, ℤ, pos, ◌-ℤ◌, ◌≤ℤ◌, int_le, List, [], ◌∷◌, ◌++◌, length, if◌then◌else◌}
use Rattle.std.proofs.Common.{refl, ap, ◌∙◌, sym, subst, arith, length-append}
use Rattle.std.proofs.lemmas.Int.{ints}
use Rattle.op_forest.specs.declared.frame.Slot.{Slot}
use Rattle.op_forest.specs.Frames.{lesser, lowest_from, lowest}
use Rattle.c_meaning.specs.Values.{CoreTree}
use Rattle.dag_forest.specs.NewSlots.{offset_below, slot_below, slots_below}
use Rattle.dag_forest.specs.Split.{room_count}
use Rattle.lowered_forms.specs.Contexts.{Context}
use Rattle.lowered_forms.specs.Expressions.{low_e, low_test}
use Rattle.lowered_forms.specs.Lows.{Low, ended, marked, with_slot}
use Rattle.lowered_forms.specs.Steps.{Relation, Steps, Jumps}
use Rattle.lowered_forms.proofs.lemmas.Induction.{value_steps, test_steps}
use Rattle.lowered_sizes.specs.Frames.{StaysLow}
use Rattle.lowered_sizes.proofs.lemmas.Taking.{below_are}

lowest_append : (z : ℤ) (xs ys : List Slot) → lowest_from z (xs ++ ys) ≡ lowest_from (lowest_from z xs) ys
lowest_append z [] ys = refl
lowest_append z (x ∷ xs) ys = lowest_append (lesser z x.offset) xs ys

-- so many slots below a place begin no lower than four bytes each below it
below_falls : (low : ℤ) (n : ℕ) → (low -ℤ pos (4 * n)) ≤ℤ lowest_from low (slots_below low n)
below_falls low zero = omega (arith, ints)
below_falls low (suc n) = subst (λ z. (low -ℤ pos (4 * suc n)) ≤ℤ z) (sym (lowest_append low (slots_below low n) (slot_below low n ∷ []))) (by (int_le (lowest_from low (slots_below low n)) (offset_below low n)) (below_falls low n))
  where
    by : (q : Bool) → (low -ℤ pos (4 * n)) ≤ℤ lowest_from low (slots_below low n) → (low -ℤ pos (4 * suc n)) ≤ℤ (if q then lowest_from low (slots_below low n) else offset_below low n)
    by true h = omega (arith, ints, h)
    by false h = omega (arith, ints)

grown_falls : (slots : List Slot) (n : ℕ) → (lowest slots -ℤ pos (4 * n)) ≤ℤ lowest (slots ++ slots_below (lowest slots) n)
grown_falls slots n = subst (λ z. (lowest slots -ℤ pos (4 * n)) ≤ℤ z) (sym (lowest_append (pos 0) slots (slots_below (lowest slots) n))) (below_falls (lowest slots) n)

grown_length : (slots : List Slot) (n : ℕ) → length (slots ++ slots_below (lowest slots) n) ≡ length slots + n
grown_length slots n = let a = length-append slots (slots_below (lowest slots) n) in let b = below_are (lowest slots) n in omega (arith, a, b)

-- ---- the steps

abbrev stays : Relation
stays n a b = StaysLow a b

pub same_slots : (a b : Low) → b.slots ≡ a.slots → StaysLow a b
same_slots a b e = record {
  more = 0;
  slots = (let d = ap (λ (xs : List Slot). length xs) e in omega (arith, d));
  falls = subst (λ (xs : List Slot). (lowest a.slots -ℤ pos (4 * 0)) ≤ℤ lowest xs) (sym e) (omega (arith, ints));
}

pub grown : (n : ℕ) (a b : Low) → b.slots ≡ a.slots ++ slots_below (lowest a.slots) n → StaysLow a b
grown n a b e = record {
  more = n;
  slots = ap (λ (xs : List Slot). length xs) e ∙ grown_length a.slots n;
  falls = subst (λ (xs : List Slot). (lowest a.slots -ℤ pos (4 * n)) ≤ℤ lowest xs) (sym e) (grown_falls a.slots n);
}

pub lower_still : (a b c : Low) → StaysLow a b → StaysLow b c → StaysLow a c
lower_still a b c x y = record {
  more = x.more + y.more;
  slots = (let e = x.slots in let f = y.slots in omega (arith, e, f));
  falls = (let e = x.falls in let f = y.falls in omega (arith, ints, e, f));
}

stays_steps : Steps stays
stays_steps = record {
  same = λ l. same_slots l l refl;
  joins = λ m n a b c x y. lower_still a b c x y;
  weakens = λ m n a b h x. x;
  asks = λ t l. same_slots l _ refl;
  acts = λ r l. same_slots l _ refl;
  acts_one = λ h t l. same_slots l _ refl;
  slot = λ l. grown 1 l (with_slot l) refl;
}

stays_jumps : Jumps stays
stays_jumps = record {
  uncounted = λ m n a b x. x;
  ends = λ l. grown (room_count l.entries) l (ended l) refl;
  marks = λ n l. grown (room_count l.entries) l (marked n l) refl;
  label = λ l. same_slots l _ refl;
}

pub expressions_stay_low : (s : Context) (e : CoreTree) (l : Low) → StaysLow l (low_e s e l).low
expressions_stay_low s e l = value_steps stays stays_steps s e (λ h. stays_jumps) l

pub tests_stay_low : (s : Context) (e : CoreTree) (n : ℕ) (when : Bool) (l : Low) → StaysLow l (low_test s e n when l)
tests_stay_low s e n when l = test_steps stays stays_steps stays_jumps s e n when l
