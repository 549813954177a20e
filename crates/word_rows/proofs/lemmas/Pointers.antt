-- Addresses, and pointers that are moved and subtracted.
use Rattle.std.specs.Prelude.{◌≡◌, ◌<◌, ◌≤◌, ◌⊎◌, ℕ, zero, suc, ℤ, pos, negsuc, neg_ℤ, ◌+◌, ◌-◌, ◌*◌, ◌/◌, ◌%◌, ◌^◌, ◌+ℤ◌, ◌-ℤ◌, ◌==◌, ◌&&◌, ◌||◌, not, nat_lt, int_le, int_lt, int_div, Bool, true, false, Option, Some, None, List, [], ◌∷◌, length, slice_get, if◌then◌else◌}
use Rattle.std.specs.Int.{cast_unsigned, w32, int_wrap}
use Rattle.std.specs.Int.RustNames.{unsigned_abs}
use Rattle.std.proofs.Common.{refl, sym, ap, subst, inl, inr, ⊎_elim, ◌∙◌, arith}
use Rattle.std.proofs.lemmas.Bool.{eqb-true, cases_lt, ltb-true}
use Rattle.std.proofs.lemmas.Int.{ints}
use Rattle.lcc_base.specs.declared.cause.Cause.TheVariants.{Dead, PointerRange, PointerOrder}
use Rattle.objects.specs.declared.operators.Binary.TheVariants.{Subtract}
use Rattle.objects.specs.declared.value.ObjectName.{ObjectName}
use Rattle.objects.specs.declared.value.Value.{Value}
use Rattle.objects.specs.declared.value.Value.TheVariants.{Number, Pointer, Function}
use Rattle.objects.specs.Arithmetic.{signed_of, word_of}
use Rattle.objects.specs.Causes.{first_cause, is_dead, leaves_object, has_no_order, is_no_multiple}
use Rattle.objects.specs.Pointers.{place_after, moved_if, moved, subtracted, bytes_between}
use Rattle.objects.specs.Values.{same_object}
use Rattle.objects.proofs.lemmas.AccessLaws.{first_not, first_rest}
use Rattle.op_forest.specs.declared.frame.Slot.{Slot}
use Rattle.op_forest.specs.Frames.{end_of}
use Rattle.forests.specs.Words.{Word, Plain, Label, Partly, number_of}
use Rattle.forests.specs.Objects.{Object, shapes}
use Rattle.forests.specs.Accesses.{defined}
use Rattle.forests.specs.Addresses.{plain, moved_from, lies_in, slot_place}
use Rattle.forests.proofs.lemmas.BitLaws.{signed_low, signed_high, word_low, word_high}
use Rattle.memory_map.specs.Maps.{Map, IsWord}
use Rattle.word_rows.specs.Pointers.{moved_number, NamesMove, NamesAreAt, LabelsAreAt, LocalsAreAt, ParametersAreAt, PointersMoveOn, PointersMoveBack, DifferencesAre}
use Rattle.word_rows.proofs.lemmas.Numbers.{none_some, some_is, number_word, plain_of, two_are}

-- ---- signed numbers and their words

low_word : (n : ℕ) → n < 2 ^ 32 → number_of (pos n) ≡ n
low_word n h = omega (arith, h)

high_word : (n : ℕ) → n < 2 ^ 32 → number_of (negsuc n) ≡ 2 ^ 32 - 1 - n
high_word n h = omega (arith, h)

number_back : (n : ℕ) → n < 2 ^ 32 → number_of (signed_of n) ≡ n
number_back n h = ⊎_elim
    (λ l. ap number_of (signed_low n l) ∙ low_word n h)
    (λ l. ap number_of (signed_high n l h) ∙ high_word (2 ^ 32 - 1 - n) (omega (arith, h)) ∙ (let e : 2 ^ 32 - 1 - (2 ^ 32 - 1 - n) ≡ n = omega (arith, h) in e))
    (cases_lt n (2 ^ 31))

negated_low : (n : ℕ) → n < 2 ^ 31 → number_of (neg_ℤ (pos n)) ≡ (2 ^ 32 - n) % 2 ^ 32
negated_low zero h = refl
negated_low (suc n) h = high_word n (omega (arith, h)) ∙ (let e : 2 ^ 32 - 1 - n ≡ (2 ^ 32 - suc n) % 2 ^ 32 = omega (arith, h) in e)

negated_back : (n : ℕ) → n < 2 ^ 32 → number_of (neg_ℤ (signed_of n)) ≡ (2 ^ 32 - n) % 2 ^ 32
negated_back n h = ⊎_elim
    (λ l. ap (λ (z : ℤ). number_of (neg_ℤ z)) (signed_low n l) ∙ negated_low n l)
    (λ l. ap (λ (z : ℤ). number_of (neg_ℤ z)) (signed_high n l h) ∙ low_word (suc (2 ^ 32 - 1 - n)) (omega (arith, h, l)) ∙ (let e : suc (2 ^ 32 - 1 - n) ≡ (2 ^ 32 - n) % 2 ^ 32 = omega (arith, h, l) in e))
    (cases_lt n (2 ^ 31))

number_small : (z : ℤ) → number_of z < 2 ^ 32
number_small (pos n) = omega arith
number_small (negsuc n) = omega arith

word_back : (n : ℕ) → n < 2 ^ 32 → word_of (signed_of n) ≡ n
word_back n h = ⊎_elim
    (λ l. ap word_of (signed_low n l) ∙ word_low n h)
    (λ l. ap word_of (signed_high n l h) ∙ word_high (2 ^ 32 - 1 - n) (omega (arith, h)) ∙ (let e : 2 ^ 32 - 1 - (2 ^ 32 - 1 - n) ≡ n = omega (arith, h) in e))
    (cases_lt n (2 ^ 31))

wrapped_word : (z : ℤ) → cast_unsigned w32 (int_wrap w32 z) ≡ number_of z
unfolding int_wrap
wrapped_word z = word_back (number_of z) (number_small z)

-- ---- a value moved

moved_is : (dead : Bool) (v : Value) (by : ℤ) (u : Word) → plain (defined (moved_if dead v by)) ≡ Some u → (leaves_object v by ≡ false) × (Some (Plain (place_after v by)) ≡ Some u)
moved_is dead v by u e =
    let r = plain_of (first_cause ((dead, Dead) ∷ (leaves_object v by, PointerRange) ∷ [])) (place_after v by) u e in
    (first_not (leaves_object v by) PointerRange [] (first_rest dead Dead ((leaves_object v by, PointerRange) ∷ []) r.0), r.1)

not_false : (b : Bool) → not b ≡ false → b ≡ true
not_false true e = refl
not_false false e = absurd (let never : ⊥ = cc in never)

and_both : (a b : Bool) → (a && b) ≡ true → (a ≡ true) × (b ≡ true)
and_both true b e = (refl, e)
and_both false b e = absurd (let never : ⊥ = cc in never)

-- the place that it is moved to
inside : (offset size : ℕ) (by : ℤ) → not (int_le (pos 0) (pos offset +ℤ by) && int_le (pos offset +ℤ by) (pos size)) ≡ false → (k : ℕ) × (unsigned_abs (pos offset +ℤ by) ≡ k) × (pos k ≡ pos offset +ℤ by) × (k ≤ size)
inside offset size by e =
    let both = and_both (int_le (pos 0) (pos offset +ℤ by)) (int_le (pos offset +ℤ by) (pos size)) (not_false (int_le (pos 0) (pos offset +ℤ by) && int_le (pos offset +ℤ by) (pos size)) e) in
    at (pos offset +ℤ by) both.0 both.1
  where
    at : (z : ℤ) → int_le (pos 0) z ≡ true → int_le z (pos size) ≡ true → (k : ℕ) × (unsigned_abs z ≡ k) × (pos k ≡ z) × (k ≤ size)
    at (pos k) l h = (k, refl, refl, omega (arith, ints, h))
    at (negsuc k) l h = absurd (let never : ⊥ = omega (arith, ints, l) in never)

moved_address : (a offset k h : ℕ) (by : ℤ) → pos k ≡ pos offset +ℤ by → h ≡ (a + offset) % 2 ^ 32 → moved_number h by ≡ (a + k) % 2 ^ 32
moved_address a offset k h (pos n) e is = let same : k ≡ offset + n = omega (arith, ints, e) in omega (arith, same, is)
moved_address a offset k h (negsuc n) e is = let same : k + suc n ≡ offset = omega (arith, ints, e) in omega (arith, same, is)

not_moved : (by : ℤ) → not (unsigned_abs by == 0) ≡ false → by ≡ pos 0
not_moved (pos n) e = ap (λ (m : ℕ). pos m) (eqb-true n 0 (not_false (n == 0) e))
not_moved (negsuc n) e = absurd (let z = eqb-true (suc n) 0 (not_false (suc n == 0) e) in let never : ⊥ = omega (arith, z) in never)

stays : (h : ℕ) (by : ℤ) → h < 2 ^ 32 → by ≡ pos 0 → moved_number h by ≡ h
stays h by small e = ap (λ (z : ℤ). moved_number h z) e ∙ (let q : (h + number_of (pos 0)) % 2 ^ 32 ≡ h = omega (arith, small) in q)

pub moves_if : (map : Map) (dead : Bool) (v : Value) (by : ℤ) (u : Word) (h : ℕ) → h < 2 ^ 32 → IsWord map (Plain v) h → plain (defined (moved_if dead v by)) ≡ Some u → IsWord map u (moved_number h by)
moves_if map dead (Pointer object offset) by u h small is e =
    let r = moved_is dead (Pointer object offset) by u e in
    let k = inside offset object.size by r.0 in
    subst (λ (w : Word). IsWord map w (moved_number h by)) (some_is (Plain (Pointer object (unsigned_abs (pos offset +ℤ by)))) u r.1)
    (is.0, is.1, moved_address is.0 offset k.0 h by k.2 is.2 ∙ ap (λ (n : ℕ). (is.0 + n) % 2 ^ 32) (sym k.1), subst (λ (n : ℕ). n ≤ object.size) (sym k.1) k.3)
moves_if map dead (Number n) by u h small is e =
    let r = moved_is dead (Number n) by u e in
    number_word map u n (moved_number h by) r.1 (stays h by small (not_moved by r.0) ∙ is)
moves_if map dead (Function f) by u h small is e =
    let r = moved_is dead (Function f) by u e in
    subst (λ (w : Word). IsWord map w (moved_number h by)) (some_is (Plain (Function f)) u r.1) (stays h by small (not_moved by r.0) ∙ is)

pub moves : NamesMove
moves map objects v by u h small is e = moves_if map (is_dead (shapes objects) v) v by u h small is e

pub name_is : NamesAreAt
name_is map e objects name offset u v h global small is f = moves map objects v offset u h small is (ap (λ (x : Option Value). moved_from objects x offset) (sym global) ∙ f)

pub label_is : LabelsAreAt
label_is map e objects l u f = subst (λ (w : Word). IsWord map w (map.label e.home.function l)) (some_is (Label e.home.function l) u f) refl

-- by as many bytes as a number says
moved_by : (map : Map) (objects : List Object) (v : Value) (u : Word) (x : ℕ) (z : ℤ) (n : ℕ) → x < 2 ^ 32 → IsWord map (Plain v) x → plain (defined (moved (shapes objects) v z)) ≡ Some u → moved_number x z ≡ n → IsWord map u n
moved_by map objects v u x z n small is e same = subst (λ (m : ℕ). IsWord map u m) same (moves map objects v z u x small is e)

pub moves_on : PointersMoveOn
moves_on map objects (Plain v) (Plain (Number n)) u x y hx hy is it e =
    let same : y ≡ n = it in
    let few : n < 2 ^ 32 = subst (λ (m : ℕ). m < 2 ^ 32) same hy in
    moved_by map objects v u x (signed_of n) ((x + y) % 2 ^ 32) hx is e (ap (λ (m : ℕ). (x + m) % 2 ^ 32) (number_back n few ∙ sym same))
moves_on map objects (Plain v) (Plain (Pointer object offset)) u x y hx hy is it e = absurd (none_some u e)
moves_on map objects (Plain v) (Plain (Function f)) u x y hx hy is it e = absurd (none_some u e)
moves_on map objects (Plain v) (Label f l) u x y hx hy is it e = absurd (none_some u e)
moves_on map objects (Plain v) (Partly mask bits) u x y hx hy is it e = absurd (none_some u e)
moves_on map objects (Label f l) w u x y hx hy is it e = absurd (none_some u e)
moves_on map objects (Partly mask bits) w u x y hx hy is it e = absurd (none_some u e)

less_is : (x y : ℕ) → x < 2 ^ 32 → y < 2 ^ 32 → (x + (2 ^ 32 - y) % 2 ^ 32) % 2 ^ 32 ≡ (x + 2 ^ 32 - y) % 2 ^ 32
less_is x y hx hy = omega (arith, hx, hy)

pub moves_back : PointersMoveBack
moves_back map objects (Plain v) (Plain (Number n)) u x y hx hy is it e =
    let same : y ≡ n = it in
    let few : n < 2 ^ 32 = subst (λ (m : ℕ). m < 2 ^ 32) same hy in
    moved_by map objects v u x (neg_ℤ (signed_of n)) ((x + 2 ^ 32 - y) % 2 ^ 32) hx is e
    (ap (λ (m : ℕ). (x + m) % 2 ^ 32) (negated_back n few) ∙ ap (λ (m : ℕ). (x + (2 ^ 32 - m) % 2 ^ 32) % 2 ^ 32) (sym same) ∙ less_is x y hx hy)
moves_back map objects (Plain v) (Plain (Pointer object offset)) u x y hx hy is it e = absurd (none_some u e)
moves_back map objects (Plain v) (Plain (Function f)) u x y hx hy is it e = absurd (none_some u e)
moves_back map objects (Plain v) (Label f l) u x y hx hy is it e = absurd (none_some u e)
moves_back map objects (Plain v) (Partly mask bits) u x y hx hy is it e = absurd (none_some u e)
moves_back map objects (Label f l) w u x y hx hy is it e = absurd (none_some u e)
moves_back map objects (Partly mask bits) w u x y hx hy is it e = absurd (none_some u e)

-- ---- differences

by_one : (z : ℤ) → int_div z (pos 1) ≡ z
by_one (pos n) = ap (λ (x : ℕ). pos x) (let e : n / 1 ≡ n = omega arith in e)
by_one (negsuc n) = ap (λ (x : ℕ). neg_ℤ (pos x)) (let e : suc n / 1 ≡ suc n = omega arith in e)

between : (a i j x y : ℕ) → x ≡ (a + i) % 2 ^ 32 → y ≡ (a + j) % 2 ^ 32 → number_of (pos i -ℤ pos j) ≡ (x + 2 ^ 32 - y) % 2 ^ 32
between a i j x y e f = ⊎_elim
    (λ l.
    let z : pos i -ℤ pos j ≡ negsuc (j - i - 1) = omega (arith, ints, l) in
    ap number_of z ∙ (let q : 2 ^ 32 - 1 - (j - i - 1) % 2 ^ 32 ≡ (x + 2 ^ 32 - y) % 2 ^ 32 = omega (arith, e, f, l) in q))
    (λ l.
    let z : pos i -ℤ pos j ≡ pos (i - j) = omega (arith, ints, l) in
    ap number_of z ∙ (let q : (i - j) % 2 ^ 32 ≡ (x + 2 ^ 32 - y) % 2 ^ 32 = omega (arith, e, f, l) in q))
    (cases_lt i j)

pub made_same : (a b : ObjectName) → same_object a b ≡ true → a.made ≡ b.made
made_same a b e =
    let f = and_both (a.place == b.place) ((a.made == b.made) && (a.size == b.size)) e in
    eqb-true a.made b.made (and_both (a.made == b.made) (a.size == b.size) f.1).0

-- where they have an order
subtracted_is : (objects : List Object) (p q : Value) (u : Word) → plain (defined (subtracted (shapes objects) 1 p q)) ≡ Some u → (has_no_order p q ≡ false) × (Some (Plain (Number (cast_unsigned w32 (int_wrap w32 (int_div (bytes_between p q) (pos 1)))))) ≡ Some u)
subtracted_is objects p q u e =
    let dead = is_dead (shapes objects) p || is_dead (shapes objects) q in
    let last = (is_no_multiple (bytes_between p q) 1, PointerOrder) ∷ [] in
    let second = (has_no_order p q, PointerOrder) ∷ last in
    let r = plain_of (first_cause ((dead, Dead) ∷ second)) (Number (cast_unsigned w32 (int_wrap w32 (int_div (bytes_between p q) (pos 1))))) u e in
    (first_not (has_no_order p q) PointerOrder last (first_rest dead Dead second r.0), r.1)

no_order : (b : Bool) → b ≡ true → b ≡ false → ⊥
no_order true e f = cc
no_order false e f = cc

pub difference_is : DifferencesAre
difference_is map objects (Plain (Number p)) (Plain (Number q)) u x y hx hy is it e = (two_are map false Subtract (Plain (Number p)) (Plain (Number q)) u x y is it e).1
difference_is map objects (Plain (Pointer a i)) (Plain (Pointer b j)) u x y hx hy is it e =
    let r = subtracted_is objects (Pointer a i) (Pointer b j) u e in
    let made = made_same a b (not_false (same_object a b) r.0) in
    let start : it.0 ≡ is.0 = some_is it.0 is.0 (sym it.1 ∙ ap map.object (sym made) ∙ is.1) in
    let z = pos i -ℤ pos j in
    number_word map u (cast_unsigned w32 (int_wrap w32 (int_div z (pos 1)))) ((x + 2 ^ 32 - y) % 2 ^ 32) r.1
    (sym (between is.0 i j x y is.2 (it.2 ∙ ap (λ (n : ℕ). (n + j) % 2 ^ 32) start)) ∙ sym (wrapped_word z) ∙ ap (λ (t : ℤ). cast_unsigned w32 (int_wrap w32 t)) (sym (by_one z)))
difference_is map objects (Plain (Number p)) (Plain (Pointer b j)) u x y hx hy is it e = absurd (no_order true refl (subtracted_is objects (Number p) (Pointer b j) u e).0)
difference_is map objects (Plain (Number p)) (Plain (Function g)) u x y hx hy is it e = absurd (no_order true refl (subtracted_is objects (Number p) (Function g) u e).0)
difference_is map objects (Plain (Pointer a i)) (Plain (Number q)) u x y hx hy is it e = absurd (no_order true refl (subtracted_is objects (Pointer a i) (Number q) u e).0)
difference_is map objects (Plain (Pointer a i)) (Plain (Function g)) u x y hx hy is it e = absurd (no_order true refl (subtracted_is objects (Pointer a i) (Function g) u e).0)
difference_is map objects (Plain (Function f)) (Plain q) u x y hx hy is it e = absurd (no_order true refl (subtracted_is objects (Function f) q u e).0)
difference_is map objects (Plain (Number p)) (Label f l) u x y hx hy is it e = absurd (none_some u e)
difference_is map objects (Plain (Pointer a i)) (Label f l) u x y hx hy is it e = absurd (none_some u e)
difference_is map objects (Plain (Function g)) (Label f l) u x y hx hy is it e = absurd (none_some u e)
difference_is map objects (Plain (Number p)) (Partly mask bits) u x y hx hy is it e = absurd (none_some u e)
difference_is map objects (Plain (Pointer a i)) (Partly mask bits) u x y hx hy is it e = absurd (none_some u e)
difference_is map objects (Plain (Function g)) (Partly mask bits) u x y hx hy is it e = absurd (none_some u e)
difference_is map objects (Label f l) w u x y hx hy is it e = absurd (none_some u e)
difference_is map objects (Partly mask bits) w u x y hx hy is it e = absurd (none_some u e)

-- ---- the body's own objects

-- from so far below the top
at_slot : (top m k : ℕ) (y z : ℤ) → m ≤ top → y ≡ neg_ℤ (pos m) → pos k ≡ z -ℤ y → moved_number top z ≡ (top - m + k) % 2 ^ 32
at_slot top m k y (pos n) le is e = let same : k ≡ n + m = omega (arith, ints, is, e) in omega (arith, same, le)
at_slot top m k y (negsuc n) le is e = let same : k + suc n ≡ m = omega (arith, ints, is, e) in omega (arith, same, le)

lies : (offset z : ℤ) (size : ℕ) → int_le offset z ≡ true → int_lt z (offset +ℤ pos size) ≡ true → (k : ℕ) × (unsigned_abs (z -ℤ offset) ≡ k) × (pos k ≡ z -ℤ offset) × (k ≤ size)
lies offset z size low high = at (z -ℤ offset) refl
  where
    at : (t : ℤ) → t ≡ z -ℤ offset → (k : ℕ) × (unsigned_abs t ≡ k) × (pos k ≡ t) × (k ≤ size)
    at (pos k) e = (k, refl, refl, omega (arith, ints, low, high, e))
    at (negsuc k) e = absurd (let never : ⊥ = omega (arith, ints, low, e) in never)

-- a slot: where its object lies
record IsSlotAt (map : Map) (top made k : ℕ) (s : Slot) : Type 0 where
  pub below : ℕ
  pub is : s.offset ≡ neg_ℤ (pos below)
  pub low : below ≤ top
  pub at : map.object (made + k) ≡ Some (top - below)

choice : (b : Bool) (x y : Option Word) (u : Word) → (if b then x else y) ≡ Some u → ((b ≡ true) × (x ≡ Some u)) ⊎ (y ≡ Some u)
choice true x y u e = inl (refl, e)
choice false x y u e = inr e

slot_is : (map : Map) (top place made : ℕ) (slots : List Slot) (z : ℤ) (u : Word) → ((k : ℕ) (s : Slot) → slice_get slots k ≡ Some s → IsSlotAt map top made k s) → slot_place place made slots z ≡ Some u → IsWord map u (moved_number top z)
slot_is map top place made [] z u at e = absurd (none_some u e)
slot_is map top place made (s ∷ ss) z u at e = ⊎_elim
    (λ here.
    let both = and_both (int_le s.offset z) (int_lt z (end_of s)) here.0 in
    let k = lies s.offset z s.size both.0 both.1 in
    let q = at zero s refl in
    let first : made + zero ≡ made = omega arith in
    let start : map.object made ≡ Some (top - q.below) = ap map.object (sym first) ∙ q.at in
    subst (λ (w : Word). IsWord map w (moved_number top z)) (some_is (Plain (Pointer (record { place = place; made = made; size = s.size }) (unsigned_abs (z -ℤ s.offset)))) u here.1)
    (top - q.below, start, at_slot top q.below k.0 s.offset z q.low q.is k.2 ∙ ap (λ (n : ℕ). (top - q.below + n) % 2 ^ 32) (sym k.1), subst (λ (n : ℕ). n ≤ s.size) (sym k.1) k.3))
    (λ rest. slot_is map top (suc place) (suc made) ss z u (λ k t f. later k t (at (suc k) t f)) rest)
    (choice (lies_in s z) _ _ u e)
  where
    later : (k : ℕ) (t : Slot) → IsSlotAt map top made (suc k) t → IsSlotAt map top (suc made) k t
    later k t q = record { below = q.below; is = q.is; low = q.low; at = (let same : suc made + k ≡ made + suc k = omega arith in ap map.object same ∙ q.at) }

whole : (m : ℕ) → unsigned_abs (neg_ℤ (pos m)) ≡ m
whole zero = refl
whole (suc m) = refl

pub local_is : LocalsAreAt
local_is map home top words_at z u homed frame reach e =
    slot_is map top home.place home.made home.slots z u
    (λ k s f.
    let four = frame.four k s f in
    let size : unsigned_abs s.offset ≡ 4 * four.0 = ap unsigned_abs four.1 ∙ whole (4 * four.0) in
    record {
      below = 4 * four.0;
      is = four.1;
      low = subst (λ (n : ℕ). n ≤ top) size (reach k s f);
      at = homed.slots k s f ∙ ap (λ (n : ℕ). Some (top - n)) size;
    })
    e

pub parameter_is : ParametersAreAt
parameter_is map home top words_at (negsuc n) u homed e = absurd (none_some u e)
parameter_is map home top words_at (pos n) u homed e = at (choice (nat_lt (n / 4) home.words) _ None u e)
  where
    at : ((nat_lt (n / 4) home.words ≡ true) × (Some (Plain (Pointer (record { place = home.place + length home.slots + n / 4; made = home.made + length home.slots + n / 4; size = 4 }) (n % 4))) ≡ Some u)) ⊎ (None ≡ Some u) → IsWord map u (moved_number words_at (pos n))
    at (inr none) = absurd (none_some u none)
    at (inl here) =
        let lt : n / 4 < home.words = before (n / 4) home.words here.0 in
        subst (λ (w : Word). IsWord map w (moved_number words_at (pos n))) (some_is (Plain (Pointer (record { place = home.place + length home.slots + n / 4; made = home.made + length home.slots + n / 4; size = 4 }) (n % 4))) u here.1)
        (words_at + 4 * (n / 4), homed.words (n / 4) lt, omega arith, omega arith)
      where
        before : (a b : ℕ) → nat_lt a b ≡ true → a < b
        before a b t = ltb-true a b t
