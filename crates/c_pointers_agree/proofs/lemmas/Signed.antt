-- Signed numbers and the words that they are, where they are not too large.
use Rattle.std.proofs.Common.{◌≡◌, ◌≤◌, ◌<◌, ℕ, zero, suc, ◌+◌, ◌-◌, ◌*◌, ◌/◌, ◌%◌, ◌^◌, ℤ, pos, negsuc, neg_ℤ, Bool, true, false, refl, ap, sym, subst, inl, inr, ◌∙◌, arith}
use Rattle.std.specs.Prelude.{◌*ℤ◌, int_div, if◌then◌else◌}
use Rattle.std.specs.Int.{cast_unsigned, w32, int_wrap}
use Rattle.std.specs.Int.RustNames.{unsigned_abs, FitsSigned}
use Rattle.std.proofs.lemmas.Bool.{cases_lt}
use Rattle.std.proofs.lemmas.Int.{ints, int_wrap_fits, quot_fits}
use Rattle.std.proofs.Math.Nat.{mul_comm, mul-add}
use Rattle.objects.specs.Arithmetic.{signed_of, word_of}
use Rattle.forests.proofs.lemmas.BitLaws.{signed_low, signed_high}
use Rattle.forests.specs.Words.{number_of}

-- below 2^31 from 0, a number is its word's
pub word_is_read : (z : ℤ) → unsigned_abs z < 2 ^ 31 → signed_of (number_of z) ≡ z
word_is_read (pos n) h =
    let small : number_of (pos n) ≡ n = omega (arith, h) in
    ap (λ (x : ℕ). signed_of x) small ∙ signed_low n h
word_is_read (negsuc n) h =
    let small : number_of (negsuc n) ≡ 2 ^ 32 - suc n = omega (arith, h) in
    ap (λ (x : ℕ). signed_of x) small ∙ signed_high (2 ^ 32 - suc n) (omega (arith, h)) (omega (arith, h))
    ∙ ap (λ (x : ℕ). negsuc x) (let e : 2 ^ 32 - 1 - (2 ^ 32 - suc n) ≡ n = omega (arith, h) in e)

neg_abs : (n : ℕ) → unsigned_abs (neg_ℤ (pos n)) ≡ n
neg_abs zero = refl
neg_abs (suc n) = refl

pub abs_neg : (z : ℤ) → unsigned_abs (neg_ℤ z) ≡ unsigned_abs z
abs_neg (pos n) = neg_abs n
abs_neg (negsuc n) = refl

-- ---- an index times a size

product_rest : (n size d : ℕ) → n + d ≡ 2 ^ 32 → n * size + size * d ≡ size * 2 ^ 32
product_rest n size d e = ap (λ (x : ℕ). x + size * d) (mul_comm n size) ∙ sym (mul-add size n d) ∙ ap (λ (x : ℕ). size * x) e

-- of a number that lacks so much of a multiple of 2^32
signed_rest : (n p s : ℕ) → n + p ≡ s * 2 ^ 32 → p < 2 ^ 31 → signed_of (n % 2 ^ 32) ≡ neg_ℤ (pos p)
signed_rest n zero s e h = let none : n % 2 ^ 32 ≡ 0 = omega (arith, e) in ap (λ (x : ℕ). signed_of x) none
signed_rest n (suc p) s e h =
    let rest : n % 2 ^ 32 ≡ 2 ^ 32 - suc p = omega (arith, e, h) in
    ap (λ (x : ℕ). signed_of x) rest
    ∙ signed_high (2 ^ 32 - suc p) (omega (arith, h)) (omega (arith, h))
    ∙ ap (λ (x : ℕ). negsuc x) (let f : 2 ^ 32 - 1 - (2 ^ 32 - suc p) ≡ p = omega (arith, h) in f)

-- what an integer counts, signed or not
abbrev pub counted : Bool → ℕ → ℤ
counted signed n = if signed then signed_of n else pos n

low_scaled : (n size : ℕ) → size * n < 2 ^ 31 → signed_of ((n * size) % 2 ^ 32) ≡ pos (size * n)
low_scaled n size h =
    let turned = mul_comm n size in
    let small : (n * size) % 2 ^ 32 ≡ size * n = omega (arith, turned, h) in
    ap (λ (x : ℕ). signed_of x) small ∙ signed_low (size * n) h

high_scaled : (n size : ℕ) → 2 ^ 31 ≤ n → n < 2 ^ 32 → unsigned_abs (pos size *ℤ signed_of n) < 2 ^ 31 → signed_of ((n * size) % 2 ^ 32) ≡ pos size *ℤ signed_of n
high_scaled n size l h k =
    let d = suc (2 ^ 32 - 1 - n) in
    let is : pos size *ℤ signed_of n ≡ neg_ℤ (pos (size * d)) = ap (λ (z : ℤ). pos size *ℤ z) (signed_high n l h) in
    let few : size * d < 2 ^ 31 = subst (λ (x : ℕ). x < 2 ^ 31) (ap (λ (z : ℤ). unsigned_abs z) is ∙ neg_abs (size * d)) k in
    signed_rest (n * size) (size * d) size (product_rest n size d (omega (arith, h))) few ∙ sym is

pub index_scaled : (signed : Bool) (n size : ℕ) → n < 2 ^ 32 → unsigned_abs (pos size *ℤ counted signed n) < 2 ^ 31 → signed_of ((n * size) % 2 ^ 32) ≡ pos size *ℤ counted signed n
index_scaled false n size l h = low_scaled n size h
index_scaled true n size l h = elim (cases_lt n (2 ^ 31)) [
  | inl low ↦ (let is : pos size *ℤ signed_of n ≡ pos (size * n) = ap (λ (z : ℤ). pos size *ℤ z) (signed_low n low) in low_scaled n size (subst (λ (z : ℤ). unsigned_abs z < 2 ^ 31) is h) ∙ sym is)
  | inr high ↦ high_scaled n size high l h
]

-- ---- quotients

-- a signed number divided by a size, as an unsigned word and as a signed one
pub quotient_is : (z : ℤ) (size : ℕ) → FitsSigned w32 z → 0 < size → cast_unsigned w32 (int_wrap w32 (int_div z (pos size))) ≡ word_of (int_div z (pos size))
quotient_is z size h l = ap (λ (x : ℤ). cast_unsigned w32 x) (int_wrap_fits w32 (int_div z (pos size)) (quot_fits w32 z (pos size) h (omega (arith, ints, l))))

pub divided_by_one : (z : ℤ) → int_div z (pos 1) ≡ z
divided_by_one (pos n) = ap (λ (x : ℕ). pos x) (let e : n / 1 ≡ n = omega arith in e)
divided_by_one (negsuc n) = ap (λ (x : ℕ). neg_ℤ (pos x)) (let e : suc n / 1 ≡ suc n = omega arith in e)
