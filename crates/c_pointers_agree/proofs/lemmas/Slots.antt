-- The places of slots of the frame, and of parameter words.
use Rattle.std.proofs.Common.{◌≡◌, ◌<◌, ℕ, zero, suc, ◌+◌, ◌*◌, ◌/◌, ◌%◌, nat_lt, ℤ, pos, ◌+ℤ◌, ◌-ℤ◌, ◌≤ℤ◌, ◌<ℤ◌, ◌&&◌, Bool, true, false, true≢false, Option, Some, None, Ok, List, [], ◌∷◌, slice_get, ⊎_elim, refl, ap, sym, subst, inl, inr, ◌∙◌, arith}
use Rattle.std.specs.Prelude.{◌⊎◌, int_le, int_lt, if◌then◌else◌}
use Rattle.std.specs.Int.RustNames.{unsigned_abs}
use Rattle.std.proofs.lemmas.Int.{ints}
use Rattle.std.proofs.lemmas.Bool.{lt-ltb}
use Rattle.lcc_base.specs.declared.cause.Cause.TheVariants.{Dead, PointerRange}
use Rattle.objects.specs.declared.value.ObjectName.{ObjectName}
use Rattle.objects.specs.declared.value.Value.{Value}
use Rattle.objects.specs.declared.value.Value.TheVariants.{Number, Pointer, Function}
use Rattle.objects.specs.Causes.{is_dead, leaves_object}
use Rattle.objects.specs.Objects.{Object as Old}
use Rattle.objects.specs.Pointers.{moved, place_after}
use Rattle.op_forest.specs.declared.frame.Slot.{Slot}
use Rattle.op_forest.specs.declared.op.Op.TheVariants as op
use Rattle.op_forest.specs.declared.suffix.Suffix.TheVariants.{P}
use Rattle.op_forest.specs.declared.sym.Sym.TheVariants as sym_of
use Rattle.op_forest.specs.Frames.{IsFrame, end_of}
use Rattle.op_forest.specs.Nodes.{Head}
use Rattle.forests.specs.Actions.{Action, Gave, gave}
use Rattle.forests.specs.Addresses.{lies_in, slot_place}
use Rattle.forests.specs.Rows.{acts}
use Rattle.forests.specs.Words.{Word, Plain}
use Rattle.c_match.specs.Ranges.{Map}
use Rattle.c_match.specs.Values.{IsValue}
use Rattle.c_match_objects.proofs.lemmas.Pointers.{was_given}
use Rattle.c_rows_agree.specs.Templates.{Scene, Gives}
use Rattle.c_rows_agree.specs.Typed.{Holds, head_with}
use Rattle.c_pointers_agree.specs.Pointers.{local, slot_name, argument, argument_name}

abbrev local_head : ℤ → Head
local_head z = head_with op.Addrl P sym_of.Nothing (Some z)

-- ---- tests

le_so : (a b : ℤ) → a ≤ℤ b → int_le a b ≡ true
le_so a b h = by (int_le a b) refl
  where
    by : (t : Bool) → int_le a b ≡ t → t ≡ true
    by true e = refl
    by false e = absurd (let never : ⊥ = omega (arith, ints, e, h) in never)

le_not : (a b : ℤ) → b <ℤ a → int_le a b ≡ false
le_not a b h = by (int_le a b) refl
  where
    by : (t : Bool) → int_le a b ≡ t → t ≡ false
    by true e = absurd (let never : ⊥ = omega (arith, ints, e, h) in never)
    by false e = refl

lt_so : (a b : ℤ) → a <ℤ b → int_lt a b ≡ true
lt_so a b h = by (int_lt a b) refl
  where
    by : (t : Bool) → int_lt a b ≡ t → t ≡ true
    by true e = refl
    by false e = absurd (let never : ⊥ = omega (arith, ints, e, h) in never)

lt_not : (a b : ℤ) → b ≤ℤ a → int_lt a b ≡ false
lt_not a b h = by (int_lt a b) refl
  where
    by : (t : Bool) → int_lt a b ≡ t → t ≡ false
    by true e = absurd (let never : ⊥ = omega (arith, ints, e, h) in never)
    by false e = refl

both_true : (a b : Bool) → a ≡ true → b ≡ true → (a && b) ≡ true
both_true a b p q = cc

one_false : (a b : Bool) → (a ≡ false) ⊎ (b ≡ false) → (a && b) ≡ false
one_false true b h = ⊎_elim (λ e. absurd (true≢false e)) (λ e. e) h
one_false false b h = refl

-- ---- a slot's bytes

IsApart : Slot → Slot → Type 0
IsApart s t = (end_of s ≤ℤ t.offset) ⊎ (end_of t ≤ℤ s.offset)

in_slot : (s : Slot) (start : ℕ) → start < s.size → lies_in s (s.offset +ℤ pos start) ≡ true
in_slot s start h =
    both_true (int_le s.offset (s.offset +ℤ pos start)) (int_lt (s.offset +ℤ pos start) (end_of s))
    (le_so s.offset (s.offset +ℤ pos start) (omega (arith, ints)))
    (lt_so (s.offset +ℤ pos start) (end_of s) (omega (arith, ints, h)))

out_of_slot : (s t : Slot) (start : ℕ) → start < s.size → (end_of s ≤ℤ t.offset) ⊎ (end_of t ≤ℤ s.offset) → lies_in t (s.offset +ℤ pos start) ≡ false
out_of_slot s t start h apart =
    one_false (int_le t.offset (s.offset +ℤ pos start)) (int_lt (s.offset +ℤ pos start) (end_of t))
    (⊎_elim (λ a. inl (le_not t.offset (s.offset +ℤ pos start) (omega (arith, ints, h, a)))) (λ a. inr (lt_not (s.offset +ℤ pos start) (end_of t) (omega (arith, ints, a)))) apart)

way_back : (z : ℤ) (start : ℕ) → unsigned_abs ((z +ℤ pos start) -ℤ z) ≡ start
way_back z start = ap (λ (x : ℤ). unsigned_abs x) (let e : (z +ℤ pos start) -ℤ z ≡ pos start = omega (arith, ints) in e)

abbrev word_at : ℕ → ℕ → ℕ → ℕ → Option Word
word_at place made size n = Some (Plain (Pointer (record { place = place; made = made; size = size }) n))

same_word : (p q m n size start : ℕ) → p ≡ q → m ≡ n → word_at p m size start ≡ word_at q n size start
same_word p q m n size start e f = cc

place_in_slot : (place made : ℕ) (slots : List Slot) (i : ℕ) (s : Slot) (start : ℕ) → slice_get slots i ≡ Some s → start < s.size → ((j : ℕ) (t : Slot) → j < i → slice_get slots j ≡ Some t → (end_of s ≤ℤ t.offset) ⊎ (end_of t ≤ℤ s.offset)) → slot_place place made slots (s.offset +ℤ pos start) ≡ word_at (place + i) (made + i) s.size start
place_in_slot place made [] i s start e h apart = absurd (let never : ⊥ = cc in never)
place_in_slot place made (t ∷ ts) zero s start e h apart =
    let z = s.offset +ℤ pos start in
    let same : t ≡ s = cc in
    ap (λ (u : Slot). slot_place place made (u ∷ ts) z) same
    ∙ ap (λ (b : Bool). if b then word_at place made s.size (unsigned_abs (z -ℤ s.offset)) else slot_place (suc place) (suc made) ts z) (in_slot s start h)
    ∙ ap (λ (n : ℕ). word_at place made s.size n) (way_back s.offset start)
    ∙ same_word place (place + 0) made (made + 0) s.size start (omega arith) (omega arith)
place_in_slot place made (t ∷ ts) (suc i) s start e h apart =
    let z = s.offset +ℤ pos start in
    ap (λ (b : Bool). if b then word_at place made t.size (unsigned_abs (z -ℤ t.offset)) else slot_place (suc place) (suc made) ts z) (out_of_slot s t start h (apart 0 t (omega arith) refl))
    ∙ place_in_slot (suc place) (suc made) ts i s start e h (λ j u l f. apart (suc j) u (omega (arith, l)) f)
    ∙ same_word (suc place + i) (place + suc i) (suc made + i) (made + suc i) s.size start (omega arith) (omega arith)

module _ (k : Scene) (i : ℕ) (s : Slot) (start : ℕ) (frame : IsFrame k.environment.home.slots) (e : slice_get k.environment.home.slots i ≡ Some s) (h : start < s.size) where
  pub slot_gives : Gives k (local (s.offset +ℤ pos start)).tree (Plain (Pointer (slot_name k.environment.home i s) start))
  slot_gives =
      let home = k.environment.home in
      ap gave (place_in_slot home.place home.made home.slots i s start e h (λ j t l f. ⊎_elim (λ (same : i ≡ j). absurd (let never : ⊥ = omega (arith, l, same) in never)) (λ a. a) (frame.apart i j s t e f)))

pub slot_stands : (k : Scene) (i : ℕ) (s : Slot) (object : ObjectName) (start offset : ℕ) → IsFrame k.environment.home.slots → slice_get k.environment.home.slots i ≡ Some s → IsValue k.map (Pointer object offset) (Plain (Pointer (slot_name k.environment.home i s) start)) → start < s.size → Holds k (local (s.offset +ℤ pos start)) (Pointer object offset)
slot_stands k i s object start offset frame e is h = record { word = Plain (Pointer (slot_name k.environment.home i s) start); gives = slot_gives k i s start frame e h; is = is }

-- ---- further in a slot

same_given : (x : Action) (w v : Word) → x ≡ Gave w → x ≡ Gave v → w ≡ v
same_given x w v e f = let g : Gave w ≡ Gave v = sym e ∙ f in cc

further_in : (map : Map) (old : List Old) (slot : ObjectName) (start by : ℕ) (p q : Value) → IsValue map p (Plain (Pointer slot start)) → moved old p (pos by) ≡ Ok q → IsValue map q (Plain (Pointer slot (start + by)))
further_in map old slot start by (Number n) q i e = absurd (let never : ⊥ = cc in never)
further_in map old slot start by (Function f) q i e = absurd (let never : ⊥ = cc in never)
further_in map old slot start by (Pointer name offset) q i e =
    let p = Pointer name offset in
    let to : Pointer name (offset + by) ≡ q = (was_given (is_dead old p) (leaves_object p (pos by)) Dead PointerRange (place_after p (pos by)) q e).value in
    let r = i.0 in
    let object : slot ≡ r.object = (let f = i.2 in cc) in
    let at : start ≡ r.start + offset = (let f = i.2 in cc) in
    let sum : start + by ≡ r.start + (offset + by) = omega (arith, at) in
    subst (λ (v : Value). IsValue map v (Plain (Pointer slot (start + by)))) to (r, i.1, same_pointer slot r.object (start + by) (r.start + (offset + by)) object sum)
  where
    same_pointer : (a b : ObjectName) (x y : ℕ) → a ≡ b → x ≡ y → Plain (Pointer a x) ≡ Plain (Pointer b y)
    same_pointer a b x y f g = cc

pub slot_moves : (k : Scene) (old : List Old) (i : ℕ) (s : Slot) (start by : ℕ) (p q : Value) → IsFrame k.environment.home.slots → slice_get k.environment.home.slots i ≡ Some s → start + by < s.size → Holds k (local (s.offset +ℤ pos start)) p → moved old p (pos by) ≡ Ok q → Holds k (local (s.offset +ℤ pos (start + by))) q
slot_moves k old i s start by p q frame e h hp m =
    let slot = slot_name k.environment.home i s in
    let from : Gives k (local (s.offset +ℤ pos start)).tree (Plain (Pointer slot start)) = slot_gives k i s start frame e (omega (arith, h)) in
    let same : hp.word ≡ Plain (Pointer slot start) = same_given (acts k.environment (local_head (s.offset +ℤ pos start)) [] k.objects) hp.word (Plain (Pointer slot start)) hp.gives from in
    record {
      word = Plain (Pointer slot (start + by));
      gives = slot_gives k i s (start + by) frame e h;
      is = further_in k.map old slot start by p q (subst (λ (w : Word). IsValue k.map p w) same hp.is) m;
    }

-- ---- parameter words

argument_gives : (k : Scene) (i : ℕ) → i < k.environment.home.words → Gives k (argument i).tree (Plain (Pointer (argument_name k.environment.home i) 0))
argument_gives k i h =
    let home = k.environment.home in
    let place : (4 * i) / 4 ≡ i = omega arith in
    let start : (4 * i) % 4 ≡ 0 = omega arith in
    let within : nat_lt ((4 * i) / 4) home.words ≡ true = lt-ltb ((4 * i) / 4) home.words (omega (arith, place, h)) in
    ap (λ (b : Bool). gave (if b then Some (Plain (Pointer (argument_name home ((4 * i) / 4)) ((4 * i) % 4))) else None)) within
    ∙ ap (λ (n : ℕ). Gave (Plain (Pointer (argument_name home n) ((4 * i) % 4)))) place
    ∙ ap (λ (n : ℕ). Gave (Plain (Pointer (argument_name home i) n))) start

pub argument_stands : (k : Scene) (i : ℕ) (p : Value) → i < k.environment.home.words → IsValue k.map p (Plain (Pointer (argument_name k.environment.home i) 0)) → Holds k (argument i) p
argument_stands k i p h is = record { word = Plain (Pointer (argument_name k.environment.home i) 0); gives = argument_gives k i h; is = is }
