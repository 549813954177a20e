-- Lemmas: what operators do with sound words and objects is sound.
use Rattle.std.specs.Prelude.{◌≡◌, ◌<◌, ◌≤◌, ℕ, ℤ, pos, negsuc, zero, suc, ◌+◌, ◌-◌, ◌/◌, ◌%◌, ◌^◌, ◌==◌, nat_lt, min, neg_ℤ, ◌-ℤ◌, int_div, int_rem, bit_and, bit_xor, Bool, true, false, Option, Some, None, List, [], ◌∷◌, length, take, if◌then◌else◌}
use Rattle.std.specs.Int.{w32, int_wrap, cast_unsigned, bit_at}
use Rattle.std.specs.Int.RustNames.{unsigned_abs}
use Rattle.std.specs.Int.Bits.{and_self}
use Rattle.std.proofs.Common.{refl, sym, ap, subst, ◌∙◌, arith, inl, inr}
use Rattle.std.proofs.Math.Facts.{Fits-of_z, Fits-lt-pow}
use Rattle.std.proofs.Math.Nat.{div-le_self, mod-le, pow-le-pow_right}
use Rattle.std.proofs.Math.Pow.{pow-lt}
use Rattle.std.proofs.lemmas.Bool.{cases_lt}
use Rattle.std.proofs.lemmas.Int.{SFits-int_wrap}
use Rattle.std.proofs.lemmas.Nat.Bits.{bit_at-lt, bit_at_and, bit_at_xor, same_from_bits}
use Rattle.std.proofs.lemmas.Nat.{and_le_l, and_le_r, or_lt, xor_lt, mod_below, pow_pos}
use Rattle.lcc_base.specs.declared.order.Order.{Order}
use Rattle.lcc_base.specs.declared.order.Order.TheVariants.{Big, Little}
use Rattle.lcc_base.specs.declared.cause.Cause.{Cause}
use Rattle.objects.specs.declared.byte.Byte.{Byte}
use Rattle.objects.specs.declared.operators.Unary.{Unary}
use Rattle.objects.specs.declared.operators.Unary.TheVariants.{Plus, Negate, Complement}
use Rattle.objects.specs.declared.operators.Binary.{Binary}
use Rattle.objects.specs.declared.operators.Binary.TheVariants as binary
use Rattle.objects.specs.declared.purpose.Purpose.TheVariants.{Assignment}
use Rattle.objects.specs.declared.value.Value.{Value}
use Rattle.objects.specs.declared.value.Value.TheVariants.{Number, Pointer, Function}
use Rattle.objects.specs.declared.width.Width.{Width}
use Rattle.objects.specs.declared.width.Width.TheVariants as width
use Rattle.objects.specs.Values.{bytes_in, bits_in}
use Rattle.objects.specs.Bytes.{known_bytes, number_bytes}
use Rattle.objects.specs.Causes.{unless}
use Rattle.objects.proofs.lemmas.AccessLaws.{not_less}
use Rattle.objects.specs.Accesses.{write_cause, number_or_zero}
use Rattle.objects.specs.Arithmetic.{signed_of, word_of, unary_word, binary_word, binary_cause}
use Rattle.objects.specs.Conversions.{extended}
use Rattle.objects.specs.Copies.{copy_cause}
use Rattle.objects.specs.Pointers.{place_after, moved, subtracted, bytes_between}
use Rattle.objects.specs.Objects.{Object as Shape}
use Rattle.op_forest.specs.declared.frame.Slot.{Slot}
use Rattle.op_forest.specs.declared.op.Op.{Op}
use Rattle.op_forest.specs.declared.op.Op.TheVariants as op
use Rattle.op_forest.specs.declared.suffix.Suffix.{Suffix}
use Rattle.op_forest.specs.declared.suffix.Suffix.TheVariants.{C, S, I, U, P, B, V}
use Rattle.op_forest.specs.declared.sym.Sym.{Sym}
use Rattle.op_forest.specs.declared.sym.Sym.TheVariants as sym
use Rattle.op_forest.specs.Nodes.{Head}
use Rattle.forests.specs.Words.{Word, Plain, Label, Partly, IsWord, number_of, narrow, low_number}
use Rattle.forests.specs.WordBytes.{word_bytes}
use Rattle.forests.specs.Objects.{Object, shapes, bytes_through}
use Rattle.forests.specs.Accesses.{defined, word_read, number_read, bytes_written, number_written_by, number_written, word_written, block_copied}
use Rattle.forests.specs.Bits.{KnownBits, bits_of, bits_and, bits_or, bits_xor, bits_complement, bits_left, bits_right, bits_right_signed, word_of_bits, by_bits, by_bits_of_two, complemented, bitwise, shifted_by, shifted}
use Rattle.forests.proofs.lemmas.BitLaws.{and_has, or_has, left_has, right_has, right_signed_has, signed_below, signed_low, signed_high, word_low, word_high, rest_below}
use Rattle.forests.proofs.lemmas.MayBe.{and_ones}
use Rattle.forests.specs.Worlds.{To}
use Rattle.forests.specs.Actions.{Moved, Meaningless, gave, changed}
use Rattle.forests.specs.Addresses.{Home, Environment, plain, moved_from, named, lies_in, slot_place, local, word_place, parameter}
use Rattle.forests.specs.Numbers.{constant, narrow_constant, extended_by, widened, narrowed_by, narrowed, of_one, of_two, moved_on, moved_back, difference}
use Rattle.forests.specs.Rows.{called, jumped, branched, assigned, leaf_row, unary_row, binary_row, acts}
use Rattle.forests.specs.Sound.{AreSoundBytes, AreSoundObjects, AreWords, IsSoundEnvironment, IsSoundValue}
use Rattle.forests.proofs.lemmas.SoundBytes.{known_word_sound, bytes_through_sound, stored_through_sound, word_bytes_sound, word_in_sound, whole_byte}
use Rattle.forests.specs.SoundRows.{IsSoundAction, AreKnown}

gave_sound : (objects : List Object) (v : Option Word) → IsSoundValue v → IsSoundAction (gave v)
gave_sound objects None h = tt
gave_sound objects (Some v) h = h

same_some : {A : Type 0} {x y : A} → Some x ≡ Some y → x ≡ y
same_some e = cc

either_value : (b : Bool) (v w : Option Word) → IsSoundValue v → IsSoundValue w → IsSoundValue (if b then v else w)
either_value true v w h k = h
either_value false v w h k = k

-- ---- numbers

pow_le : (k : ℕ) → k ≤ 32 → 2 ^ k ≤ 2 ^ 32
pow_le k le = pow-le-pow_right {n = 2} (omega arith) le

few_ones : (bits : ℕ) → bits < 32 → 2 ^ bits - 1 < 2 ^ 32 - 1
few_ones bits lt = let h : 2 ^ bits < 2 ^ 32 = pow-lt lt in let p = pow_pos bits in omega (arith, h, p)

all_below : (b : Bool) (n : ℕ) → n < 2 ^ 32 → (if b then n else n + (2 ^ 32 - 2 ^ 32)) < 2 ^ 32
all_below true n h = h
all_below false n h = omega (arith, h)

number_of_below : (z : ℤ) → number_of z < 2 ^ 32
number_of_below (pos n) = mod_below n (2 ^ 32) (omega arith)
number_of_below (negsuc n) = omega arith

narrow_sound : (bits n : ℕ) → bits < 32 → IsWord (narrow bits n)
narrow_sound bits n lt = (few_ones bits lt, and_ones bits (n % 2 ^ bits) (mod_below n (2 ^ bits) (pow_pos bits)))

narrow_constant_sound : (bits : ℕ) (z : Option ℤ) → bits < 32 → IsSoundValue (narrow_constant bits z)
narrow_constant_sound bits None lt = tt
narrow_constant_sound bits (Some z) lt = narrow_sound bits (number_of z) lt

constant_sound : (z : Option ℤ) → IsSoundValue (constant z)
constant_sound None = tt
constant_sound (Some z) = number_of_below z

narrowed_by_sound : (bits : ℕ) (n : Option ℕ) → bits < 32 → IsSoundValue (narrowed_by bits n)
narrowed_by_sound bits None lt = tt
narrowed_by_sound bits (Some n) lt = narrow_sound bits n lt

narrowed_sound : (bits : ℕ) (w : Word) → bits < 32 → IsSoundValue (narrowed bits w)
narrowed_sound bits w lt = narrowed_by_sound bits (low_number bits w) lt

sign_extended_below : (b : Bool) (n c : ℕ) → n < c → c ≤ 2 ^ 31 → (if b then n else n + (2 ^ 32 - c)) < 2 ^ 32
sign_extended_below true n c lt le = omega (arith, lt, le)
sign_extended_below false n c lt le = omega (arith, lt, le)

extended_below : (signed : Bool) (w : Width) (n : ℕ) → extended signed (bits_in w) n < 2 ^ 32
extended_below true width.One n = sign_extended_below (nat_lt (n % 2 ^ 8) (2 ^ 7)) (n % 2 ^ 8) (2 ^ 8) (mod_below n (2 ^ 8) (omega arith)) (omega arith)
extended_below true width.Two n = sign_extended_below (nat_lt (n % 2 ^ 16) (2 ^ 15)) (n % 2 ^ 16) (2 ^ 16) (mod_below n (2 ^ 16) (omega arith)) (omega arith)
extended_below true width.Four n = all_below (nat_lt (n % 2 ^ 32) (2 ^ 31)) (n % 2 ^ 32) (mod_below n (2 ^ 32) (omega arith))
extended_below false width.One n = (let lt = mod_below n (2 ^ 8) (omega arith) in omega (arith, lt))
extended_below false width.Two n = (let lt = mod_below n (2 ^ 16) (omega arith) in omega (arith, lt))
extended_below false width.Four n = mod_below n (2 ^ 32) (omega arith)

extended_by_sound : (signed : Bool) (w : Width) (n : Option ℕ) → IsSoundValue (extended_by signed (bits_in w) n)
extended_by_sound signed w None = tt
extended_by_sound signed w (Some n) = extended_below signed w n

widened_sound : (signed : Bool) (w : Width) (v : Word) → IsSoundValue (widened signed (bits_in w) v)
widened_sound signed w v = extended_by_sound signed w (low_number (bits_in w) v)

-- ---- C's values

plain_sound : (cause : Option Cause) (v : Value) → IsWord (Plain v) → IsSoundValue (plain (defined (unless cause v)))
plain_sound None v h = h
plain_sound (Some c) v h = tt

pub place_after_sound : (v : Value) (by : ℤ) → IsWord (Plain v) → IsWord (Plain (place_after v by))
place_after_sound (Number n) by h = h
place_after_sound (Pointer object offset) by h = tt
place_after_sound (Function f) by h = tt

moved_sound : (os : List Shape) (v : Value) (by : ℤ) → IsWord (Plain v) → IsSoundValue (plain (defined (moved os v by)))
moved_sound os v by h = plain_sound _ (place_after v by) (place_after_sound v by h)

moved_from_sound : (objects : List Object) (o : Option Value) (by : ℤ) → ((v : Value) → o ≡ Some v → IsWord (Plain v)) → IsSoundValue (moved_from objects o by)
moved_from_sound objects None by h = tt
moved_from_sound objects (Some v) by h = moved_sound (shapes objects) v by (h v refl)

named_sound : (e : Environment) (objects : List Object) (x : Sym) → IsSoundEnvironment e → IsSoundValue (named e objects x)
named_sound e objects (sym.Global name offset) h = moved_from_sound objects (e.global name) offset (λ v is. h name v is)
named_sound e objects (sym.Label l) h = tt
named_sound e objects x h = tt

slot_place_sound : (place made : ℕ) (slots : List Slot) (offset : ℤ) → IsSoundValue (slot_place place made slots offset)
slot_place_sound place made [] offset = tt
slot_place_sound place made (s ∷ ss) offset =
    either_value (lies_in s offset) (Some (Plain (Pointer (record { place = place; made = made; size = s.size }) (unsigned_abs (offset -ℤ s.offset))))) (slot_place (suc place) (suc made) ss offset) tt (slot_place_sound (suc place) (suc made) ss offset)

local_sound : (home : Home) (z : Option ℤ) → IsSoundValue (local home z)
local_sound home None = tt
local_sound home (Some offset) = slot_place_sound home.place home.made home.slots offset

word_place_sound : (home : Home) (z : ℤ) → IsSoundValue (word_place home z)
word_place_sound home (pos n) =
    either_value (nat_lt (n / 4) home.words) (Some (Plain (Pointer (record { place = home.place + length home.slots + n / 4; made = home.made + length home.slots + n / 4; size = 4 }) (n % 4)))) None tt tt
word_place_sound home (negsuc n) = tt

parameter_sound : (home : Home) (z : Option ℤ) → IsSoundValue (parameter home z)
parameter_sound home None = tt
parameter_sound home (Some z) = word_place_sound home z

-- ---- reads and writes

few_taken : (xs : List (Byte Word)) → length (take 4 xs) ≤ 4
few_taken [] = omega arith
few_taken (a ∷ []) = omega arith
few_taken (a ∷ b ∷ []) = omega arith
few_taken (a ∷ b ∷ c ∷ []) = omega arith
few_taken (a ∷ b ∷ c ∷ d ∷ xs) = omega arith

few_through : (objects : List Object) (p : Value) → length (bytes_through objects p 4) ≤ 4
few_through objects (Pointer object offset) = few_taken _
few_through objects (Number n) = omega arith
few_through objects (Function f) = omega arith

defined_sound : (cause : Option Cause) (w : Word) → IsWord w → IsSoundValue (defined (unless cause w))
defined_sound None w h = h
defined_sound (Some c) w h = tt

word_read_sound : (order : Order) (objects : List Object) (p : Word) → AreSoundObjects objects → IsSoundValue (word_read order objects p)
word_read_sound order objects (Plain p) h = defined_sound _ _ (word_in_sound order (bytes_through objects p 4) (few_through objects p) (bytes_through_sound objects p 4 h))
word_read_sound order objects (Label f l) h = tt
word_read_sound order objects (Partly mask bits) h = tt

number_read_sound : (order : Order) (w : Width) (objects : List Object) (p : Word) → bits_in w < 32 → IsSoundValue (number_read order w objects p)
number_read_sound order w objects (Plain p) lt = defined_sound _ _ (narrow_sound (bits_in w) _ lt)
number_read_sound order w objects (Label f l) lt = tt
number_read_sound order w objects (Partly mask bits) lt = tt

changed_sound : (cause : Option Cause) (new : List Object) → AreSoundObjects new → IsSoundAction (changed (defined (unless cause new)))
changed_sound None new h = h
changed_sound (Some c) new h = tt

bytes_written_sound : (size : ℕ) (bytes : List (Byte Word)) (objects : List Object) (p : Word) → AreSoundBytes bytes → AreSoundObjects objects → IsSoundAction (changed (bytes_written size bytes objects p))
bytes_written_sound size bytes objects (Plain p) h k = changed_sound (write_cause Assignment (shapes objects) p size size) _ (stored_through_sound objects p bytes k h)
bytes_written_sound size bytes objects (Label f l) h k = tt
bytes_written_sound size bytes objects (Partly mask bits) h k = tt

word_written_sound : (order : Order) (w : Word) (objects : List Object) (p : Word) → IsWord w → AreSoundObjects objects → IsSoundAction (changed (word_written order w objects p))
word_written_sound order w objects p h k = bytes_written_sound 4 (word_bytes order w) objects p (word_bytes_sound order w h) k

number_bytes_sound : (order : Order) (w : Width) (n : ℕ) → AreSoundBytes (known_bytes (number_bytes order (bytes_in w) n))
number_bytes_sound Big width.One n = (whole_byte n, tt)
number_bytes_sound Little width.One n = (whole_byte n, tt)
number_bytes_sound Big width.Two n = (whole_byte _, (whole_byte n, tt))
number_bytes_sound Little width.Two n = (whole_byte n, (whole_byte _, tt))
number_bytes_sound Big width.Four n = (whole_byte _, (whole_byte _, (whole_byte _, (whole_byte n, tt))))
number_bytes_sound Little width.Four n = (whole_byte n, (whole_byte _, (whole_byte _, (whole_byte _, tt))))

number_written_by_sound : (order : Order) (w : Width) (n : Option ℕ) (objects : List Object) (p : Word) → AreSoundObjects objects → IsSoundAction (changed (number_written_by n order w objects p))
number_written_by_sound order w None objects p k = tt
number_written_by_sound order w (Some n) objects p k = bytes_written_sound (bytes_in w) _ objects p (number_bytes_sound order w n) k

number_written_sound : (order : Order) (w : Width) (v : Word) (objects : List Object) (p : Word) → AreSoundObjects objects → IsSoundAction (changed (number_written order w v objects p))
number_written_sound order w v objects p k = number_written_by_sound order w (low_number (bits_in w) v) objects p k

block_copied_sound : (size align : ℕ) (objects : List Object) (from to : Word) → AreSoundObjects objects → IsSoundAction (changed (block_copied size align objects from to))
block_copied_sound size align objects (Plain from) (Plain to) k =
    changed_sound (copy_cause Assignment (shapes objects) from to size align) _ (stored_through_sound objects to _ k (bytes_through_sound objects from size k))
block_copied_sound size align objects from to k = tt

assigned_sound : (x : Sym) (objects : List Object) (to from : Word) → AreSoundObjects objects → IsSoundAction (assigned x objects to from)
assigned_sound (sym.Block size align) objects to from k = block_copied_sound size align objects from to k
assigned_sound x objects to from k = tt

-- ---- arithmetic

abs_below : (z : ℤ) → unsigned_abs z < 2 ^ 32 → word_of z < 2 ^ 32
abs_below (pos n) h = subst (λ (x : ℕ). x < 2 ^ 32) (sym (word_low n h)) h
abs_below (negsuc n) h = subst (λ (x : ℕ). x < 2 ^ 32) (sym (word_high n (omega (arith, h)))) (omega arith)

signed_abs : (x : ℕ) → x < 2 ^ 32 → unsigned_abs (signed_of x) ≤ 2 ^ 31
signed_abs x h = elim (cases_lt x (2 ^ 31)) [
  | inl l ↦ subst (λ z. unsigned_abs z ≤ 2 ^ 31) (sym (signed_low x l)) (omega (arith, l))
  | inr l ↦ subst (λ z. unsigned_abs z ≤ 2 ^ 31) (sym (signed_high x l h)) (omega (arith, l))
]

neg_abs : (n : ℕ) → unsigned_abs (neg_ℤ (pos n)) ≡ n
neg_abs zero = refl
neg_abs (suc n) = refl

div_abs : (a b : ℤ) → unsigned_abs (int_div a b) ≤ unsigned_abs a
div_abs (pos a) (pos b) = div-le_self a b
div_abs (pos a) (negsuc b) = subst (λ (n : ℕ). n ≤ a) (sym (neg_abs (a / suc b))) (div-le_self a (suc b))
div_abs (negsuc a) (pos b) = subst (λ (n : ℕ). n ≤ suc a) (sym (neg_abs (suc a / b))) (div-le_self (suc a) b)
div_abs (negsuc a) (negsuc b) = div-le_self (suc a) (suc b)

rem_abs : (a b : ℤ) → unsigned_abs (int_rem a b) ≤ unsigned_abs a
rem_abs (pos a) b = mod-le a _
rem_abs (negsuc a) b = subst (λ (n : ℕ). n ≤ suc a) (sym (neg_abs (suc a % unsigned_abs b))) (mod-le (suc a) _)

divided_below : (signed : Bool) (x y : ℕ) → x < 2 ^ 32 → binary_word signed binary.Divide x y < 2 ^ 32
divided_below true x y h = let a = div_abs (signed_of x) (signed_of y) in let b = signed_abs x h in abs_below (int_div (signed_of x) (signed_of y)) (omega (arith, a, b))
divided_below false x y h = let a = div-le_self x y in omega (arith, a, h)

rest_of_below : (signed : Bool) (x y : ℕ) → x < 2 ^ 32 → binary_word signed binary.Remainder x y < 2 ^ 32
rest_of_below true x y h = let a = rem_abs (signed_of x) (signed_of y) in let b = signed_abs x h in abs_below (int_rem (signed_of x) (signed_of y)) (omega (arith, a, b))
rest_of_below false x y h = let a = mod-le x y in omega (arith, a, h)

right_by_below : (signed : Bool) (x y : ℕ) → x < 2 ^ 32 → binary_word signed binary.ShiftRight x y < 2 ^ 32
right_by_below true x y h = signed_below y x h
right_by_below false x y h = let a = div-le_self x (2 ^ y) in omega (arith, a, h)

binary_below : (signed : Bool) (o : Binary) (x y : ℕ) → x < 2 ^ 32 → y < 2 ^ 32 → binary_word signed o x y < 2 ^ 32
binary_below signed binary.Add x y hx hy = mod_below _ (2 ^ 32) (omega arith)
binary_below signed binary.Subtract x y hx hy = mod_below _ (2 ^ 32) (omega arith)
binary_below signed binary.Multiply x y hx hy = mod_below _ (2 ^ 32) (omega arith)
binary_below signed binary.Divide x y hx hy = divided_below signed x y hx
binary_below signed binary.Remainder x y hx hy = rest_of_below signed x y hx
binary_below signed binary.ShiftLeft x y hx hy = mod_below _ (2 ^ 32) (omega arith)
binary_below signed binary.ShiftRight x y hx hy = right_by_below signed x y hx
binary_below signed binary.And x y hx hy = (let few = and_le_l x y in omega (arith, few, hx))
binary_below signed binary.Or x y hx hy = or_lt 32 x y hx hy
binary_below signed binary.Xor x y hx hy = xor_lt 32 x y hx hy

unary_below : (o : Unary) (x : ℕ) → x < 2 ^ 32 → unary_word o x < 2 ^ 32
unary_below Plus x h = h
unary_below Negate x h = mod_below _ (2 ^ 32) (omega arith)
unary_below Complement x h = omega arith

or_zero_below : (v : Value) → IsWord (Plain v) → number_or_zero v < 2 ^ 32
or_zero_below (Number n) h = h
or_zero_below (Pointer object offset) h = omega arith
or_zero_below (Function f) h = omega arith

of_one_sound : (o : Unary) (v : Word) → IsWord v → IsSoundValue (of_one o v)
of_one_sound o (Plain v) h = plain_sound _ _ (unary_below o (number_or_zero v) (or_zero_below v h))
of_one_sound o (Label f l) h = tt
of_one_sound o (Partly mask bits) h = tt

of_two_sound : (signed : Bool) (o : Binary) (v w : Word) → IsWord v → IsWord w → IsSoundValue (of_two signed o v w)
of_two_sound signed o (Plain v) (Plain w) h k =
    plain_sound (binary_cause signed o v w) _ (binary_below signed o (number_or_zero v) (number_or_zero w) (or_zero_below v h) (or_zero_below w k))
of_two_sound signed o v w h k = tt

moved_on_sound : (objects : List Object) (v w : Word) → IsWord v → IsSoundValue (moved_on objects v w)
moved_on_sound objects (Plain p) (Plain (Number n)) h = moved_sound (shapes objects) p (signed_of n) h
moved_on_sound objects v w h = tt

moved_back_sound : (objects : List Object) (v w : Word) → IsWord v → IsSoundValue (moved_back objects v w)
moved_back_sound objects (Plain p) (Plain (Number n)) h = moved_sound (shapes objects) p (neg_ℤ (signed_of n)) h
moved_back_sound objects v w h = tt

wrapped_below : (z : ℤ) → cast_unsigned w32 (int_wrap w32 z) < 2 ^ 32
wrapped_below z = Fits-lt-pow {w = w32} (Fits-of_z {w = w32} (SFits-int_wrap w32 z))

subtracted_sound : (os : List Shape) (p q : Value) → IsSoundValue (plain (defined (subtracted os 1 p q)))
subtracted_sound os p q = plain_sound _ (Number (cast_unsigned w32 (int_wrap w32 (int_div (bytes_between p q) (pos 1))))) (wrapped_below (int_div (bytes_between p q) (pos 1)))

difference_sound : (objects : List Object) (v w : Word) → IsWord v → IsWord w → IsSoundValue (difference objects v w)
difference_sound objects (Plain (Number x)) (Plain (Number y)) h k = plain_sound (binary_cause false binary.Subtract (Number x) (Number y)) (Number (binary_word false binary.Subtract x y)) (binary_below false binary.Subtract x y h k)
difference_sound objects (Plain p) (Plain q) h k = subtracted_sound (shapes objects) p q
difference_sound objects v w h k = tt

value_below : (a : KnownBits) → AreKnown a → a.value < 2 ^ 32
value_below a h = let few : bit_and a.value a.known ≤ a.known = and_le_r a.value a.known in omega (arith, few, h.small, h.among)

bits_known : (w : Word) (a : KnownBits) → IsWord w → bits_of w ≡ Some a → AreKnown a
bits_known (Plain (Number n)) a h e = subst (λ (b : KnownBits). AreKnown b) (same_some e) (record { small = omega arith; among = and_ones 32 n h })
bits_known (Plain (Pointer object offset)) a h e = subst (λ (b : KnownBits). AreKnown b) (same_some e) (record { small = omega arith; among = and_self 0 })
bits_known (Plain (Function f)) a h e = subst (λ (b : KnownBits). AreKnown b) (same_some e) (record { small = omega arith; among = and_self 0 })
bits_known (Label f l) a h e = absurd (let never : ⊥ = cc in never)
bits_known (Partly mask bits) a h e = subst (λ (b : KnownBits). AreKnown b) (same_some e) (record { small = (let lt = h.0 in omega (arith, lt)); among = h.1 })

of_bits_sound : (a : KnownBits) → AreKnown a → IsWord (word_of_bits a)
of_bits_sound a h = known_word_sound a.known a.value h.small (value_below a h) h.among

by_two_sound : (f : KnownBits → KnownBits → KnownBits) (a b : Option KnownBits) → ((c d : KnownBits) → a ≡ Some c → b ≡ Some d → AreKnown (f c d)) → IsSoundValue (by_bits_of_two f a b)
by_two_sound f (Some a) (Some b) h = of_bits_sound (f a b) (h a b refl refl)
by_two_sound f (Some a) None h = tt
by_two_sound f None b h = tt

by_one_sound : (f : KnownBits → KnownBits) (a : Option KnownBits) → ((c : KnownBits) → a ≡ Some c → AreKnown (f c)) → IsSoundValue (by_bits f a)
by_one_sound f (Some a) h = of_bits_sound (f a) (h a refl)
by_one_sound f None h = tt

bitwise_sound : (o : Binary) (f : KnownBits → KnownBits → KnownBits) → ((a b : KnownBits) → AreKnown a → AreKnown b → AreKnown (f a b)) → (v w : Word) → IsWord v → IsWord w → IsSoundValue (bitwise o f v w)
bitwise_sound o f rule (Plain (Number x)) (Plain (Number y)) h k = binary_below false o x y h k
bitwise_sound o f rule v w h k = by_two_sound f (bits_of v) (bits_of w) (λ a b is_a is_b. rule a b (bits_known v a h is_a) (bits_known w b k is_b))

zeros_bit : (v k : ℕ) → v < 2 → k < 2 → min v k ≡ v → min ((k + v) % 2) k ≡ (k + v) % 2
zeros_bit v k hv hk e = omega (arith, e)

zeros_among : (known value : ℕ) → bit_and value known ≡ value → bit_and (bit_xor known value) known ≡ bit_xor known value
zeros_among known value h = same_from_bits _ _ (λ i. simp (bit_at_and, bit_at_xor) (zeros_bit (bit_at value i) (bit_at known i) (bit_at-lt value i) (bit_at-lt known i) (sym (bit_at_and value known i) ∙ ap (λ (x : ℕ). bit_at x i) h)))

zeros_below : (a : KnownBits) → AreKnown a → bit_xor a.known a.value < 2 ^ 32
zeros_below a h = xor_lt 32 a.known a.value h.small (value_below a h)

both_below : (a b : KnownBits) → AreKnown a → AreKnown b → bit_and a.known b.known < 2 ^ 32
both_below a b h k = let few = and_le_l a.known b.known in omega (arith, few, h.small)

and_sound : (v w : Word) → IsWord v → IsWord w → IsSoundValue (bitwise binary.And bits_and v w)
and_sound = bitwise_sound binary.And bits_and (λ a b h k. record {
  small = or_lt 32 _ _ (both_below a b h k) (or_lt 32 _ _ (zeros_below a h) (zeros_below b k));
  among = and_has a.value b.value a b h.among k.among;
})

or_sound : (v w : Word) → IsWord v → IsWord w → IsSoundValue (bitwise binary.Or bits_or v w)
or_sound = bitwise_sound binary.Or bits_or (λ a b h k. record {
  small = or_lt 32 _ _ (both_below a b h k) (or_lt 32 _ _ (value_below a h) (value_below b k));
  among = or_has a.value b.value a b h.among k.among;
})

-- what is left of the bits is left again
twice_bit : (x m : ℕ) → min (min x m) m ≡ min x m
twice_bit x m = omega arith

xor_again : (x m : ℕ) → bit_and (bit_and x m) m ≡ bit_and x m
xor_again x m = same_from_bits _ _ (λ i. simp bit_at_and (twice_bit (bit_at x i) (bit_at m i)))

complement_known : (a : KnownBits) → AreKnown a → AreKnown (bits_complement a)
complement_known a h = record {
  small = h.small;
  among = zeros_among a.known a.value h.among;
}

xor_sound : (v w : Word) → IsWord v → IsWord w → IsSoundValue (bitwise binary.Xor bits_xor v w)
xor_sound = bitwise_sound binary.Xor bits_xor (λ a b h k. record {
  small = both_below a b h k;
  among = xor_again (bit_xor a.value b.value) (bit_and a.known b.known);
})

complemented_sound : (w : Word) → IsWord w → IsSoundValue (complemented w)
complemented_sound (Plain (Number n)) h = omega arith
complemented_sound w h = by_one_sound bits_complement (bits_of w) (λ a is. complement_known a (bits_known w a h is))

shifted_by_sound : (signed : Bool) (o : Binary) (f : ℕ → KnownBits → KnownBits) (count : ℕ) → ((a : KnownBits) → AreKnown a → AreKnown (f count a)) → ((x : ℕ) → x < 2 ^ 32 → binary_word signed o x count < 2 ^ 32) → (w : Word) → IsWord w → IsSoundValue (shifted_by signed o f count w)
shifted_by_sound signed o f count rule below (Plain (Number x)) h = below x h
shifted_by_sound signed o f count rule below w h = by_one_sound (f count) (bits_of w) (λ a is. rule a (bits_known w a h is))

unless_large : (b : Bool) (v : Option Word) → (b ≡ false → IsSoundValue v) → IsSoundValue (if b then None else v)
unless_large true v h = tt
unless_large false v h = h refl

shift_sound : (signed : Bool) (o : Binary) (f : ℕ → KnownBits → KnownBits) → ((count : ℕ) (a : KnownBits) → count < 32 → AreKnown a → AreKnown (f count a)) → ((x count : ℕ) → x < 2 ^ 32 → binary_word signed o x count < 2 ^ 32) → (w c : Word) → IsWord w → IsSoundValue (shifted signed o f w c)
shift_sound signed o f rule below w (Plain (Number count)) h =
    unless_large (nat_lt 31 count) _ (λ few. shifted_by_sound signed o f count (λ a k. rule count a (let le = not_less 31 count few in omega (arith, le)) k) (λ x lt. below x count lt) w h)
shift_sound signed o f rule below w (Plain (Pointer object offset)) h = tt
shift_sound signed o f rule below w (Plain (Function g)) h = tt
shift_sound signed o f rule below w (Label g l) h = tt
shift_sound signed o f rule below w (Partly mask bits) h = tt

left_sound : (signed : Bool) (w c : Word) → IsWord w → IsSoundValue (shifted signed binary.ShiftLeft bits_left w c)
left_sound signed = shift_sound signed binary.ShiftLeft bits_left (λ count a lt h. record {
  small = mod_below _ (2 ^ 32) (omega arith);
  among = left_has count a.value a h.among;
}) (λ x count lt. mod_below _ (2 ^ 32) (omega arith))

right_known_below : (count m : ℕ) → count < 32 → m < 2 ^ 32 → m / 2 ^ count + (2 ^ 32 - 2 ^ (32 - count)) < 2 ^ 32
right_known_below count m lt h = let few = rest_below count m (omega (arith, lt)) h in let most = pow_le (32 - count) (omega arith) in omega (arith, few, most)

right_sound : (w c : Word) → IsWord w → IsSoundValue (shifted false binary.ShiftRight bits_right w c)
right_sound = shift_sound false binary.ShiftRight bits_right (λ count a lt h. record {
  small = right_known_below count a.known lt h.small;
  among = right_has count a.value a lt (value_below a h) h.small h.among;
}) (λ x count lt. right_by_below false x count lt)

right_signed_sound : (w c : Word) → IsWord w → IsSoundValue (shifted true binary.ShiftRight bits_right_signed w c)
right_signed_sound = shift_sound true binary.ShiftRight bits_right_signed (λ count a lt h. record {
  small = signed_below count a.known h.small;
  among = right_signed_has count a.value a lt (value_below a h) h.small h.among;
}) (λ x count lt. signed_below count x lt)

-- ---- control

called_sound : (valued : Bool) (w : Word) → IsSoundAction (called valued w)
called_sound valued (Plain (Number n)) = tt
called_sound valued (Plain (Pointer object offset)) = tt
called_sound valued (Plain (Function f)) = tt
called_sound valued (Label f l) = tt
called_sound valued (Partly mask bits) = tt

jump_sound : (b : Bool) (l : ℕ) → IsSoundAction (if b then Moved (To l) else Meaningless)
jump_sound true l = tt
jump_sound false l = tt

jumped_sound : (function : ℕ) (w : Word) → IsSoundAction (jumped function w)
jumped_sound function (Label f l) = jump_sound (f == function) l
jumped_sound function (Plain v) = tt
jumped_sound function (Partly mask bits) = tt

branched_sound : (x : Sym) (b : Option Bool) → IsSoundAction (branched x b)
branched_sound (sym.Label l) (Some true) = tt
branched_sound (sym.Label l) (Some false) = tt
branched_sound x b = tt

-- ---- rows

module _ (e : Environment) (h : Head) (objects : List Object) (env : IsSoundEnvironment e) (os : AreSoundObjects objects) where
  leaf_row_sound : (o : Op) (s : Suffix) → IsSoundAction (leaf_row e h objects o s)
  leaf_row_sound op.Cnst C = gave_sound objects _ (narrow_constant_sound 8 h.value (omega arith))
  leaf_row_sound op.Cnst S = gave_sound objects _ (narrow_constant_sound 16 h.value (omega arith))
  leaf_row_sound op.Cnst I = gave_sound objects _ (constant_sound h.value)
  leaf_row_sound op.Cnst U = gave_sound objects _ (constant_sound h.value)
  leaf_row_sound op.Cnst P = gave_sound objects _ (constant_sound h.value)
  leaf_row_sound op.Addrg P = gave_sound objects _ (named_sound e objects h.sym env)
  leaf_row_sound op.Addrf P = gave_sound objects _ (parameter_sound e.home h.value)
  leaf_row_sound op.Addrl P = gave_sound objects _ (local_sound e.home h.value)
  leaf_row_sound op.Ret V = tt
  leaf_row_sound op.Label V = tt
  leaf_row_sound o x = tt

  unary_row_sound : (o : Op) (s : Suffix) (a : Word) → IsWord a → IsSoundAction (unary_row e h objects o s a)
  unary_row_sound op.Indir C a k = gave_sound objects _ (number_read_sound e.order width.One objects a (omega arith))
  unary_row_sound op.Indir S a k = gave_sound objects _ (number_read_sound e.order width.Two objects a (omega arith))
  unary_row_sound op.Indir I a k = gave_sound objects _ (word_read_sound e.order objects a os)
  unary_row_sound op.Indir P a k = gave_sound objects _ (word_read_sound e.order objects a os)
  unary_row_sound op.Indir B a k = k
  unary_row_sound op.Arg I a k = k
  unary_row_sound op.Arg P a k = k
  unary_row_sound op.Call I a k = called_sound true a
  unary_row_sound op.Call V a k = called_sound false a
  unary_row_sound op.Ret I a k = k
  unary_row_sound op.Cvc I a k = gave_sound objects _ (widened_sound true width.One a)
  unary_row_sound op.Cvc U a k = gave_sound objects _ (widened_sound false width.One a)
  unary_row_sound op.Cvs I a k = gave_sound objects _ (widened_sound true width.Two a)
  unary_row_sound op.Cvs U a k = gave_sound objects _ (widened_sound false width.Two a)
  unary_row_sound op.Cvi C a k = gave_sound objects _ (narrowed_sound 8 a (omega arith))
  unary_row_sound op.Cvi S a k = gave_sound objects _ (narrowed_sound 16 a (omega arith))
  unary_row_sound op.Cvi U a k = k
  unary_row_sound op.Cvu C a k = gave_sound objects _ (narrowed_sound 8 a (omega arith))
  unary_row_sound op.Cvu S a k = gave_sound objects _ (narrowed_sound 16 a (omega arith))
  unary_row_sound op.Cvu I a k = k
  unary_row_sound op.Cvu P a k = k
  unary_row_sound op.Cvp U a k = k
  unary_row_sound op.Neg I a k = gave_sound objects _ (of_one_sound Negate a k)
  unary_row_sound op.Bcom U a k = gave_sound objects _ (complemented_sound a k)
  unary_row_sound op.Jump V a k = jumped_sound e.home.function a
  unary_row_sound o x a k = tt

  binary_row_sound : (o : Op) (s : Suffix) (a b : Word) → IsWord a → IsWord b → IsSoundAction (binary_row e h objects o s a b)
  binary_row_sound op.Asgn C a b k q = number_written_sound e.order width.One b objects a os
  binary_row_sound op.Asgn S a b k q = number_written_sound e.order width.Two b objects a os
  binary_row_sound op.Asgn I a b k q = word_written_sound e.order b objects a q os
  binary_row_sound op.Asgn P a b k q = word_written_sound e.order b objects a q os
  binary_row_sound op.Asgn B a b k q = assigned_sound h.sym objects a b os
  binary_row_sound op.Add I a b k q = gave_sound objects _ (of_two_sound true binary.Add a b k q)
  binary_row_sound op.Add U a b k q = gave_sound objects _ (of_two_sound false binary.Add a b k q)
  binary_row_sound op.Add P a b k q = gave_sound objects _ (moved_on_sound objects a b k)
  binary_row_sound op.Sub I a b k q = gave_sound objects _ (of_two_sound true binary.Subtract a b k q)
  binary_row_sound op.Sub U a b k q = gave_sound objects _ (difference_sound objects a b k q)
  binary_row_sound op.Sub P a b k q = gave_sound objects _ (moved_back_sound objects a b k)
  binary_row_sound op.Mul I a b k q = gave_sound objects _ (of_two_sound true binary.Multiply a b k q)
  binary_row_sound op.Mul U a b k q = gave_sound objects _ (of_two_sound false binary.Multiply a b k q)
  binary_row_sound op.Div I a b k q = gave_sound objects _ (of_two_sound true binary.Divide a b k q)
  binary_row_sound op.Div U a b k q = gave_sound objects _ (of_two_sound false binary.Divide a b k q)
  binary_row_sound op.Mod I a b k q = gave_sound objects _ (of_two_sound true binary.Remainder a b k q)
  binary_row_sound op.Mod U a b k q = gave_sound objects _ (of_two_sound false binary.Remainder a b k q)
  binary_row_sound op.Lsh I a b k q = gave_sound objects _ (left_sound true a b k)
  binary_row_sound op.Lsh U a b k q = gave_sound objects _ (left_sound false a b k)
  binary_row_sound op.Rsh I a b k q = gave_sound objects _ (right_signed_sound a b k)
  binary_row_sound op.Rsh U a b k q = gave_sound objects _ (right_sound a b k)
  binary_row_sound op.Band U a b k q = gave_sound objects _ (and_sound a b k q)
  binary_row_sound op.Bor U a b k q = gave_sound objects _ (or_sound a b k q)
  binary_row_sound op.Bxor U a b k q = gave_sound objects _ (xor_sound a b k q)
  binary_row_sound op.Eq I a b k q = branched_sound h.sym _
  binary_row_sound op.Ne I a b k q = branched_sound h.sym _
  binary_row_sound op.Lt I a b k q = branched_sound h.sym _
  binary_row_sound op.Lt U a b k q = branched_sound h.sym _
  binary_row_sound op.Le I a b k q = branched_sound h.sym _
  binary_row_sound op.Le U a b k q = branched_sound h.sym _
  binary_row_sound op.Gt I a b k q = branched_sound h.sym _
  binary_row_sound op.Gt U a b k q = branched_sound h.sym _
  binary_row_sound op.Ge I a b k q = branched_sound h.sym _
  binary_row_sound op.Ge U a b k q = branched_sound h.sym _
  binary_row_sound o x a b k q = tt

  pub acts_sound : (ws : List Word) → AreWords ws → IsSoundAction (acts e h ws objects)
  acts_sound [] k = leaf_row_sound h.operator.op h.operator.suffix
  acts_sound (a ∷ []) k = unary_row_sound h.operator.op h.operator.suffix a k.0
  acts_sound (a ∷ b ∷ []) k = binary_row_sound h.operator.op h.operator.suffix a b k.0 k.1.0
  acts_sound (a ∷ b ∷ c ∷ ws) k = tt
