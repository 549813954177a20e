-- Lemmas: which numbers a word may be: those that have its known bits; a pointer, function or label may be any. What a bit
-- operation or a shift makes of such numbers is a number that its word may be.
use Rattle.std.specs.Prelude.{◌≡◌, ◌<◌, ◌≤◌, ℕ, ◌-◌, ◌*◌, ◌/◌, ◌^◌, ◌==◌, nat_lt, min, bit_and, bit_or, bit_xor, Bool, true, false, Option, Some, None, if◌then◌else◌}
use Rattle.std.specs.Int.{bit_at}
use Rattle.std.specs.Int.Bits.{and_zero_r}
use Rattle.std.proofs.Common.{refl, sym, ap, subst, ◌∙◌, arith}
use Rattle.std.proofs.lemmas.Bool.{eqb-true}
use Rattle.std.proofs.lemmas.Nat.{and_le_l, or_lt, xor_lt, mod_below, shr_le}
use Rattle.std.proofs.lemmas.Nat.Bits.{bit_at-lt, bit_at_and, bit_at_ones, same_from_bits_below}
use Rattle.objects.specs.declared.operators.Unary.TheVariants.{Complement}
use Rattle.objects.specs.declared.operators.Binary.{Binary}
use Rattle.objects.specs.declared.operators.Binary.TheVariants.{And, Or, Xor, ShiftLeft, ShiftRight}
use Rattle.objects.specs.declared.value.Value.TheVariants.{Number, Pointer, Function}
use Rattle.objects.proofs.lemmas.AccessLaws.{not_less}
use Rattle.objects.specs.Arithmetic.{unary_word, binary_word}
use Rattle.forests.specs.Words.{Word, Plain, Label, Partly, IsWord}
use Rattle.forests.specs.Bits.{KnownBits, bits_of, bits_and, bits_or, bits_xor, bits_complement, bits_left, bits_right, bits_right_signed, word_of_bits, by_bits, by_bits_of_two, complemented, bitwise, shifted_by, shifted}
use Rattle.forests.specs.BitLaws.{Has}
use Rattle.forests.proofs.lemmas.BitLaws.{and_has, or_has, xor_has, complement_has, left_has, right_has, right_signed_has, signed_below}
use Rattle.forests.specs.MayBe.{MayBe}

one_bit : (x y : ℕ) → x < 2 → y ≡ 1 → min x y ≡ x
one_bit x y h e = omega (arith, h, e)

-- all of so many bits are known
pub and_ones : (k n : ℕ) → n < 2 ^ k → bit_and n (2 ^ k - 1) ≡ n
and_ones k n h =
    let few : bit_and n (2 ^ k - 1) ≤ n = and_le_l n (2 ^ k - 1) in
    same_from_bits_below k (bit_and n (2 ^ k - 1)) n (omega (arith, few, h)) h
    (λ i l. bit_at_and n (2 ^ k - 1) i ∙ one_bit (bit_at n i) (bit_at (2 ^ k - 1) i) (bit_at-lt n i) (bit_at_ones k i l))

and_full : (n : ℕ) → n < 2 ^ 32 → bit_and n (2 ^ 32 - 1) ≡ n
and_full n h = and_ones 32 n h

same_some : {A : Type 0} {x y : A} → Some x ≡ Some y → x ≡ y
same_some e = cc

-- ---- a word and its known bits

pub known_below : (w : Word) (a : KnownBits) → IsWord w → bits_of w ≡ Some a → a.known < 2 ^ 32
known_below (Plain (Number m)) a h e = subst (λ (b : KnownBits). b.known < 2 ^ 32) (same_some e) (omega arith)
known_below (Plain (Pointer object offset)) a h e = subst (λ (b : KnownBits). b.known < 2 ^ 32) (same_some e) (omega arith)
known_below (Plain (Function f)) a h e = subst (λ (b : KnownBits). b.known < 2 ^ 32) (same_some e) (omega arith)
known_below (Label f l) a h e = absurd (let never : ⊥ = cc in never)
known_below (Partly mask bits) a h e = subst (λ (b : KnownBits). b.known < 2 ^ 32) (same_some e) (let m = h.0 in omega (arith, m))

pub has_bits : (w : Word) (n : ℕ) (a : KnownBits) → n < 2 ^ 32 → MayBe w n → bits_of w ≡ Some a → Has n a
has_bits (Plain (Number m)) n a lt h e = subst (λ (b : KnownBits). Has n b) (same_some e) (and_full n lt ∙ h)
has_bits (Plain (Pointer object offset)) n a lt h e = subst (λ (b : KnownBits). Has n b) (same_some e) (and_zero_r n)
has_bits (Plain (Function f)) n a lt h e = subst (λ (b : KnownBits). Has n b) (same_some e) (and_zero_r n)
has_bits (Label f l) n a lt h e = absurd (let never : ⊥ = cc in never)
has_bits (Partly mask bits) n a lt h e = subst (λ (b : KnownBits). Has n b) (same_some e) h

may_by : (b : Bool) (mask bits n : ℕ) → (mask == 2 ^ 32 - 1) ≡ b → n < 2 ^ 32 → bit_and n mask ≡ bits → MayBe (if b then Plain (Number bits) else Partly mask bits) n
may_by true mask bits n full lt h = let e : mask ≡ 2 ^ 32 - 1 = eqb-true mask (2 ^ 32 - 1) full in sym (and_full n lt) ∙ ap (λ (m : ℕ). bit_and n m) (sym e) ∙ h
may_by false mask bits n full lt h = h

pub may_be : (a : KnownBits) (n : ℕ) → n < 2 ^ 32 → Has n a → MayBe (word_of_bits a) n
may_be a n lt h = may_by (a.known == 2 ^ 32 - 1) a.known a.value n refl lt h

-- ---- operations

two_may : (f : KnownBits → KnownBits → KnownBits) (n : ℕ) (a b : Option KnownBits) (u : Word) → n < 2 ^ 32 → ((c d : KnownBits) → a ≡ Some c → b ≡ Some d → Has n (f c d)) → by_bits_of_two f a b ≡ Some u → MayBe u n
two_may f n (Some a) (Some b) u lt h e = subst (λ (w : Word). MayBe w n) (same_some e) (may_be (f a b) n lt (h a b refl refl))
two_may f n (Some a) None u lt h e = absurd (let never : ⊥ = cc in never)
two_may f n None b u lt h e = absurd (let never : ⊥ = cc in never)

one_may : (f : KnownBits → KnownBits) (n : ℕ) (a : Option KnownBits) (u : Word) → n < 2 ^ 32 → ((c : KnownBits) → a ≡ Some c → Has n (f c)) → by_bits f a ≡ Some u → MayBe u n
one_may f n (Some a) u lt h e = subst (λ (w : Word). MayBe w n) (same_some e) (may_be (f a) n lt (h a refl))
one_may f n None u lt h e = absurd (let never : ⊥ = cc in never)

-- an operation on two words, which on bits is this one
bitwise_may : (op : Binary) (f : KnownBits → KnownBits → KnownBits) → ((x y : ℕ) (a b : KnownBits) → Has x a → Has y b → Has (binary_word false op x y) (f a b)) → (v w u : Word) (x y : ℕ) → x < 2 ^ 32 → y < 2 ^ 32 → binary_word false op x y < 2 ^ 32 → MayBe v x → MayBe w y → bitwise op f v w ≡ Some u → MayBe u (binary_word false op x y)
bitwise_may op f rule (Plain (Number p)) (Plain (Number q)) u x y hx hy hn a b e =
    subst (λ (w : Word). MayBe w (binary_word false op x y)) (same_some e) (ap (λ (n : ℕ). binary_word false op n y) a ∙ ap (λ (n : ℕ). binary_word false op p n) b)
bitwise_may op f rule v w u x y hx hy hn a b e =
    two_may f (binary_word false op x y) (bits_of v) (bits_of w) u hn (λ c d is_c is_d. rule x y c d (has_bits v x c hx a is_c) (has_bits w y d hy b is_d)) e

pub and_may : (v w u : Word) (x y : ℕ) → x < 2 ^ 32 → y < 2 ^ 32 → MayBe v x → MayBe w y → bitwise And bits_and v w ≡ Some u → MayBe u (bit_and x y)
and_may v w u x y hx hy a b e = bitwise_may And bits_and and_has v w u x y hx hy (let few : bit_and x y ≤ x = and_le_l x y in omega (arith, few, hx)) a b e

pub or_may : (v w u : Word) (x y : ℕ) → x < 2 ^ 32 → y < 2 ^ 32 → MayBe v x → MayBe w y → bitwise Or bits_or v w ≡ Some u → MayBe u (bit_or x y)
or_may v w u x y hx hy a b e = bitwise_may Or bits_or or_has v w u x y hx hy (or_lt 32 x y hx hy) a b e

pub xor_may : (v w u : Word) (x y : ℕ) → x < 2 ^ 32 → y < 2 ^ 32 → MayBe v x → MayBe w y → bitwise Xor bits_xor v w ≡ Some u → MayBe u (bit_xor x y)
xor_may v w u x y hx hy a b e = bitwise_may Xor bits_xor xor_has v w u x y hx hy (xor_lt 32 x y hx hy) a b e

complement_below : (x : ℕ) → unary_word Complement x < 2 ^ 32
complement_below x = omega arith

pub complement_may : (w u : Word) (x : ℕ) → IsWord w → x < 2 ^ 32 → MayBe w x → complemented w ≡ Some u → MayBe u (unary_word Complement x)
complement_may (Plain (Number p)) u x is hx a e = subst (λ (w : Word). MayBe w (unary_word Complement x)) (same_some e) (ap (λ (n : ℕ). unary_word Complement n) a)
complement_may w u x is hx a e =
    one_may bits_complement (unary_word Complement x) (bits_of w) u (complement_below x) (λ c is_c. complement_has x c hx (known_below w c is is_c) (has_bits w x c hx a is_c)) e

shifted_by_may : (signed : Bool) (op : Binary) (f : ℕ → KnownBits → KnownBits) (count : ℕ) → ((x : ℕ) (a : KnownBits) → x < 2 ^ 32 → a.known < 2 ^ 32 → Has x a → Has (binary_word signed op x count) (f count a)) → (w u : Word) (x : ℕ) → IsWord w → x < 2 ^ 32 → binary_word signed op x count < 2 ^ 32 → MayBe w x → shifted_by signed op f count w ≡ Some u → MayBe u (binary_word signed op x count)
shifted_by_may signed op f count rule (Plain (Number p)) u x is hx hn a e = subst (λ (w : Word). MayBe w (binary_word signed op x count)) (same_some e) (ap (λ (n : ℕ). binary_word signed op n count) a)
shifted_by_may signed op f count rule w u x is hx hn a e =
    one_may (f count) (binary_word signed op x count) (bits_of w) u hn (λ c is_c. rule x c hx (known_below w c is is_c) (has_bits w x c hx a is_c)) e

-- a count that shifts is from 0 to 31
within_word : (b : Bool) (e u : Option Word) (v : Word) → (if b then None else e) ≡ Some v → (b ≡ false) × (e ≡ Some v)
within_word true e u v h = absurd (let never : ⊥ = cc in never)
within_word false e u v h = (refl, h)

-- the left operand may be x, and the right one is a count
pub shift_may : (signed : Bool) (op : Binary) (f : ℕ → KnownBits → KnownBits) → ((count x : ℕ) → count < 32 → x < 2 ^ 32 → binary_word signed op x count < 2 ^ 32) → ((count x : ℕ) (a : KnownBits) → count < 32 → x < 2 ^ 32 → a.known < 2 ^ 32 → Has x a → Has (binary_word signed op x count) (f count a)) → (w c u : Word) (x y : ℕ) → IsWord w → x < 2 ^ 32 → MayBe w x → MayBe c y → shifted signed op f w c ≡ Some u → MayBe u (binary_word signed op x y)
shift_may signed op f below rule w (Plain (Number count)) u x y is hx a b e =
    let both = within_word (nat_lt 31 count) (shifted_by signed op f count w) None u e in
    let lt : count < 32 = (let le = not_less 31 count both.0 in omega (arith, le)) in
    subst (λ (n : ℕ). MayBe u (binary_word signed op x n)) (sym b)
    (shifted_by_may signed op f count (λ z d hz hd h. rule count z d lt hz hd h) w u x is hx (below count x lt hx) a both.1)
shift_may signed op f below rule w (Plain (Pointer object offset)) u x y is hx a b e = absurd (let never : ⊥ = cc in never)
shift_may signed op f below rule w (Plain (Function g)) u x y is hx a b e = absurd (let never : ⊥ = cc in never)
shift_may signed op f below rule w (Label g l) u x y is hx a b e = absurd (let never : ⊥ = cc in never)
shift_may signed op f below rule w (Partly mask bits) u x y is hx a b e = absurd (let never : ⊥ = cc in never)

left_below : (signed : Bool) (count x : ℕ) → count < 32 → x < 2 ^ 32 → binary_word signed ShiftLeft x count < 2 ^ 32
left_below signed count x lt hx = mod_below (x * 2 ^ count) (2 ^ 32) (omega arith)

right_below : (count x : ℕ) → count < 32 → x < 2 ^ 32 → binary_word false ShiftRight x count < 2 ^ 32
right_below count x lt hx = let few : x / 2 ^ count ≤ x = shr_le x count in omega (arith, few, hx)

right_signed_below : (count x : ℕ) → count < 32 → x < 2 ^ 32 → binary_word true ShiftRight x count < 2 ^ 32
right_signed_below count x lt hx = signed_below count x hx

pub left_may : (signed : Bool) (w c u : Word) (x y : ℕ) → IsWord w → x < 2 ^ 32 → MayBe w x → MayBe c y → shifted signed ShiftLeft bits_left w c ≡ Some u → MayBe u (binary_word signed ShiftLeft x y)
left_may signed = shift_may signed ShiftLeft bits_left (left_below signed) (λ count x a lt hx ha h. left_has count x a h)

pub right_may : (w c u : Word) (x y : ℕ) → IsWord w → x < 2 ^ 32 → MayBe w x → MayBe c y → shifted false ShiftRight bits_right w c ≡ Some u → MayBe u (binary_word false ShiftRight x y)
right_may = shift_may false ShiftRight bits_right right_below (λ count x a lt hx ha h. right_has count x a lt hx ha h)

pub right_signed_may : (w c u : Word) (x y : ℕ) → IsWord w → x < 2 ^ 32 → MayBe w x → MayBe c y → shifted true ShiftRight bits_right_signed w c ≡ Some u → MayBe u (binary_word true ShiftRight x y)
right_signed_may = shift_may true ShiftRight bits_right_signed right_signed_below (λ count x a lt hx ha h. right_signed_has count x a lt hx ha h)
