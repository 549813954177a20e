-- Operations on bits and shifts: numbers that a word may be are those that it is, where the word is one of bits.
use Rattle.std.specs.Prelude.{◌≡◌, ◌<◌, ℕ, ◌-◌, ◌^◌, ◌==◌, nat_lt, Bool, true, false, Option, Some, None, if◌then◌else◌}
use Rattle.std.proofs.Common.{refl, subst, arith}
use Rattle.objects.specs.declared.operators.Binary.{Binary}
use Rattle.objects.specs.declared.operators.Binary.TheVariants.{And, Or, Xor, ShiftLeft, ShiftRight}
use Rattle.objects.specs.declared.value.Value.TheVariants.{Number, Pointer, Function}
use Rattle.objects.specs.Arithmetic.{binary_word}
use Rattle.objects.proofs.lemmas.AccessLaws.{not_less}
use Rattle.forests.specs.Words.{Word, Plain, Label, Partly}
use Rattle.forests.specs.MayBe.{MayBe}
use Rattle.forests.specs.Bits.{KnownBits, bits_of, bits_and, bits_or, bits_xor, bits_complement, bits_left, bits_right, bits_right_signed, word_of_bits, by_bits, by_bits_of_two, complemented, bitwise, shifted_by, shifted}
use Rattle.forests.proofs.lemmas.MayBe.{and_may, or_may, xor_may, complement_may, left_may, right_may, right_signed_may}
use Rattle.memory_map.specs.Maps.{Map, IsWord}
use Rattle.word_rows.specs.Bits.{AndIsSo, OrIsSo, XorIsSo, ComplementIsSo, LeftShiftsAreSo, RightShiftsAreSo, SignedRightShiftsAreSo}
use Rattle.word_rows.proofs.lemmas.Numbers.{none_some, some_is}

pub may_be_word : (map : Map) (w : Word) (n : ℕ) → IsWord map w n → MayBe w n
may_be_word map (Plain (Number m)) n is = is
may_be_word map (Plain (Pointer object offset)) n is = tt
may_be_word map (Plain (Function f)) n is = tt
may_be_word map (Label f l) n is = tt
may_be_word map (Partly mask bits) n is = is

-- a number, or a word of which some bits are known
abbrev IsOfBits : Word → Type 0
IsOfBits w = (map : Map) (n : ℕ) → MayBe w n → IsWord map w n

known_of_bits : (full : Bool) (mask bits : ℕ) → IsOfBits (if full then Plain (Number bits) else Partly mask bits)
known_of_bits true mask bits map n h = h
known_of_bits false mask bits map n h = h

given_of_bits : (a : KnownBits) (u : Word) → Some (word_of_bits a) ≡ Some u → IsOfBits u
given_of_bits a u e = subst IsOfBits (some_is (word_of_bits a) u e) (known_of_bits (a.known == 2 ^ 32 - 1) a.known a.value)

number_of_bits : (n : ℕ) (u : Word) → Some (Plain (Number n)) ≡ Some u → IsOfBits u
number_of_bits n u e = subst IsOfBits (some_is (Plain (Number n)) u e) (λ map m h. h)

by_bits_are : (f : KnownBits → KnownBits) (a : Option KnownBits) (u : Word) → by_bits f a ≡ Some u → IsOfBits u
by_bits_are f None u e = absurd (none_some u e)
by_bits_are f (Some a) u e = given_of_bits (f a) u e

by_two_are : (f : KnownBits → KnownBits → KnownBits) (a b : Option KnownBits) (u : Word) → by_bits_of_two f a b ≡ Some u → IsOfBits u
by_two_are f (Some a) (Some b) u e = given_of_bits (f a b) u e
by_two_are f (Some a) None u e = absurd (none_some u e)
by_two_are f None b u e = absurd (none_some u e)

bitwise_are : (op : Binary) (f : KnownBits → KnownBits → KnownBits) (v w u : Word) → bitwise op f v w ≡ Some u → IsOfBits u
bitwise_are op f (Plain (Number x)) (Plain (Number y)) u e = number_of_bits (binary_word false op x y) u e
bitwise_are op f v w u e = by_two_are f (bits_of v) (bits_of w) u e

pub and_is : AndIsSo
and_is map v w u x y hx hy is it e = bitwise_are And bits_and v w u e map (binary_word false And x y) (and_may v w u x y hx hy (may_be_word map v x is) (may_be_word map w y it) e)

pub or_is : OrIsSo
or_is map v w u x y hx hy is it e = bitwise_are Or bits_or v w u e map (binary_word false Or x y) (or_may v w u x y hx hy (may_be_word map v x is) (may_be_word map w y it) e)

pub xor_is : XorIsSo
xor_is map v w u x y hx hy is it e = bitwise_are Xor bits_xor v w u e map (binary_word false Xor x y) (xor_may v w u x y hx hy (may_be_word map v x is) (may_be_word map w y it) e)

complement_of_bits : (w u : Word) → complemented w ≡ Some u → IsOfBits u
complement_of_bits (Plain (Number x)) u e = subst IsOfBits (some_is _ u e) (λ map m h. h)
complement_of_bits w u e = by_bits_are bits_complement (bits_of w) u e

pub complement_is : ComplementIsSo
complement_is map w u x has hx is e = complement_of_bits w u e map _ (complement_may w u x has hx (may_be_word map w x is) e)

-- ---- shifts

shifted_by_are : (signed : Bool) (op : Binary) (f : ℕ → KnownBits → KnownBits) (count : ℕ) (w u : Word) → shifted_by signed op f count w ≡ Some u → IsOfBits u
shifted_by_are signed op f count (Plain (Number x)) u e = number_of_bits (binary_word signed op x count) u e
shifted_by_are signed op f count w u e = by_bits_are (f count) (bits_of w) u e

within_word : (b : Bool) (e : Option Word) (v : Word) → (if b then None else e) ≡ Some v → (b ≡ false) × (e ≡ Some v)
within_word true e v h = absurd (none_some v h)
within_word false e v h = (refl, h)

-- the count is known
pub count_is : (map : Map) (signed : Bool) (op : Binary) (f : ℕ → KnownBits → KnownBits) (w c u : Word) (y : ℕ) → IsWord map c y → shifted signed op f w c ≡ Some u → (y < 32) × IsOfBits u
count_is map signed op f w (Plain (Number count)) u y is e =
    let both = within_word (nat_lt 31 count) (shifted_by signed op f count w) u e in
    let le = not_less 31 count both.0 in
    let same : y ≡ count = is in
    (omega (arith, le, same), shifted_by_are signed op f count w u both.1)
count_is map signed op f w (Plain (Pointer object offset)) u y is e = absurd (none_some u e)
count_is map signed op f w (Plain (Function g)) u y is e = absurd (none_some u e)
count_is map signed op f w (Label g l) u y is e = absurd (none_some u e)
count_is map signed op f w (Partly mask bits) u y is e = absurd (none_some u e)

pub left_is : LeftShiftsAreSo
left_is signed map w c u x y has hx is it e =
    let r = count_is map signed ShiftLeft bits_left w c u y it e in
    (r.0, r.1 map (binary_word signed ShiftLeft x y) (left_may signed w c u x y has hx (may_be_word map w x is) (may_be_word map c y it) e))

pub right_is : RightShiftsAreSo
right_is map w c u x y has hx is it e =
    let r = count_is map false ShiftRight bits_right w c u y it e in
    (r.0, r.1 map (binary_word false ShiftRight x y) (right_may w c u x y has hx (may_be_word map w x is) (may_be_word map c y it) e))

pub right_signed_is : SignedRightShiftsAreSo
right_signed_is map w c u x y has hx is it e =
    let r = count_is map true ShiftRight bits_right_signed w c u y it e in
    (r.0, r.1 map (binary_word true ShiftRight x y) (right_signed_may w c u x y has hx (may_be_word map w x is) (may_be_word map c y it) e))
