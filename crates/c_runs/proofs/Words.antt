-- What the operations on words give are words.
use Rattle.std.specs.Prelude.{◌≡◌, ◌<◌, ◌≤◌, ℕ, ℤ, pos, negsuc, neg_ℤ, ◌+◌, ◌-◌, ◌*◌, ◌/◌, ◌%◌, ◌^◌, zero, suc, Bool, true, false, if◌then◌else◌, int_div, int_rem, bit_and, nat_lt, refl}
use Rattle.std.proofs.Common.{arith}
use Rattle.std.proofs.lemmas.Bool.{ltb-true, ltb-false}
use Rattle.std.proofs.lemmas.Int.{ints}
use Rattle.std.proofs.Math.Nat.{div-le_self, pow-le-pow_right}
use Rattle.std.proofs.lemmas.Nat.{and_le_l, or_lt, xor_lt, mod_below, pow_pos, shr_le}
use Rattle.std.specs.Int.{int_shr}
use Rattle.std.specs.Int.Signed.{mag, mag_rem, mag_shr}
use Rattle.objects.specs.declared.operators.Unary.{Unary}
use Rattle.objects.specs.declared.operators.Unary.TheVariants as unary
use Rattle.objects.specs.declared.operators.Binary.{Binary}
use Rattle.objects.specs.declared.operators.Binary.TheVariants as binary
use Rattle.objects.specs.Arithmetic.{signed_of, word_of, unary_word, binary_word}
use Rattle.objects.specs.Conversions.{sign_extended, extended}

-- a signed number of a small magnitude
pub word_below : (z : ℤ) → mag z ≤ 2 ^ 31 → word_of z < 2 ^ 32
word_below (pos n) h = omega (arith, ints, h)
word_below (negsuc n) h = omega (arith, ints, h)

signed_by : (x : ℕ) (b : Bool) → nat_lt x (2 ^ 31) ≡ b → mag (signed_of x) < 2 ^ 31
signed_by x true e = let l : x < 2 ^ 31 = ltb-true x (2 ^ 31) e in rw e l
signed_by x false e = let l : 2 ^ 31 ≤ x = ltb-false x (2 ^ 31) e in rw e (omega (arith, l))

pub signed_small : (x : ℕ) → mag (signed_of x) < 2 ^ 31
signed_small x = signed_by x (nat_lt x (2 ^ 31)) refl

mag_neg : (n : ℕ) → mag (neg_ℤ (pos n)) ≤ n
mag_neg zero = omega arith
mag_neg (suc n) = omega arith

mag_quotient : (a d : ℤ) → mag (int_div a d) ≤ mag a + 1
mag_quotient (pos a) (pos b) = let l : a / b ≤ a = div-le_self a b in omega (arith, l)
mag_quotient (pos a) (negsuc b) = let l : a / suc b ≤ a = div-le_self a (suc b) in let m = mag_neg (a / suc b) in omega (arith, l, m)
mag_quotient (negsuc a) (pos b) = let l : suc a / b ≤ suc a = div-le_self (suc a) b in let m = mag_neg (suc a / b) in omega (arith, l, m)
mag_quotient (negsuc a) (negsuc b) = let l : suc a / suc b ≤ suc a = div-le_self (suc a) (suc b) in omega (arith, l)

quotient_below : (x y : ℕ) → word_of (int_div (signed_of x) (signed_of y)) < 2 ^ 32
quotient_below x y = word_below (int_div (signed_of x) (signed_of y)) (let a = signed_small x in let b = mag_quotient (signed_of x) (signed_of y) in omega (arith, a, b))

rest_below : (x y : ℕ) → word_of (int_rem (signed_of x) (signed_of y)) < 2 ^ 32
rest_below x y = word_below (int_rem (signed_of x) (signed_of y)) (let a = signed_small x in let b = mag_rem (signed_of x) (signed_of y) in omega (arith, a, b))

shifted_below : (x y : ℕ) → word_of (int_shr (signed_of x) y) < 2 ^ 32
shifted_below x y = word_below (int_shr (signed_of x) y) (let a = signed_small x in let b = mag_shr (signed_of x) (2 ^ y) in omega (arith, a, b))

pub unary_below : (op : Unary) (x : ℕ) → x < 2 ^ 32 → unary_word op x < 2 ^ 32
unary_below unary.Plus x h = h
unary_below unary.Negate x h = mod_below (2 ^ 32 - x) (2 ^ 32) (omega arith)
unary_below unary.Complement x h = omega arith

pub binary_below : (signed : Bool) (op : Binary) (x y : ℕ) → x < 2 ^ 32 → y < 2 ^ 32 → binary_word signed op x y < 2 ^ 32
binary_below signed binary.Add x y h g = mod_below (x + y) (2 ^ 32) (omega arith)
binary_below signed binary.Subtract x y h g = mod_below (x + 2 ^ 32 - y) (2 ^ 32) (omega arith)
binary_below signed binary.Multiply x y h g = mod_below (x * y) (2 ^ 32) (omega arith)
binary_below true binary.Divide x y h g = quotient_below x y
binary_below false binary.Divide x y h g = let l : x / y ≤ x = div-le_self x y in omega (arith, l, h)
binary_below true binary.Remainder x y h g = rest_below x y
binary_below false binary.Remainder x y h g = omega (arith, h)
binary_below signed binary.ShiftLeft x y h g = mod_below (x * 2 ^ y) (2 ^ 32) (omega arith)
binary_below true binary.ShiftRight x y h g = shifted_below x y
binary_below false binary.ShiftRight x y h g = let l : x / 2 ^ y ≤ x = shr_le x y in omega (arith, l, h)
binary_below signed binary.And x y h g = let l : bit_and x y ≤ x = and_le_l x y in omega (arith, l, h)
binary_below signed binary.Or x y h g = or_lt 32 x y h g
binary_below signed binary.Xor x y h g = xor_lt 32 x y h g

-- so many low bits, with a sign or without
signed_below : (bits m : ℕ) → bits ≤ 32 → m < 2 ^ bits → sign_extended bits m < 2 ^ 32
signed_below bits m b h =
    let l : 2 ^ bits ≤ 2 ^ 32 = pow-le-pow_right (omega arith) b in
    elim (nat_lt m (2 ^ (bits - 1))) as (λ (t : Bool). (if t then m else m + (2 ^ 32 - 2 ^ bits)) < 2 ^ 32) [ true ↦ omega (arith, l, h) | false ↦ omega (arith, l, h) ]

pub extended_below : (signed : Bool) (bits n : ℕ) → bits ≤ 32 → extended signed bits n < 2 ^ 32
extended_below true bits n b = signed_below bits (n % 2 ^ bits) b (mod_below n (2 ^ bits) (pow_pos bits))
extended_below false bits n b =
    let l : 2 ^ bits ≤ 2 ^ 32 = pow-le-pow_right (omega arith) b in
    let h : n % 2 ^ bits < 2 ^ bits = mod_below n (2 ^ bits) (pow_pos bits) in
    omega (arith, l, h)
