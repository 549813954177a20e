-- Laws of a number with others in place of some of its bits: these bits are the new ones, each other bit is as before.
use Rattle.std.specs.Prelude.{◌≡◌, ◌≤◌, ◌<◌, ℕ, ◌+◌, ◌-◌, ◌*◌, ◌/◌, ◌%◌, ◌^◌}
use Rattle.std.proofs.Common.{ap, sym, subst, ◌∙◌, arith}
use Rattle.std.proofs.Math.Nat.{mul_comm}
use Rattle.std.proofs.lemmas.Nat.{mul-add-lt, pow-add, shr_below, mod_below, pow_pos, shr_high, mod_low, shr-shr, field_of, mod-pow-add}
use Rattle.objects.specs.Causes.{bits_from}
use Rattle.objects.specs.Fields.{with_bits}

pub low_below : (n k : ℕ) → n % 2 ^ k < 2 ^ k
low_below n k = mod_below n (2 ^ k) (pow_pos k)

-- a middle and a low part
pub middle_below : (s w m l : ℕ) → m < 2 ^ w → l < 2 ^ s → m * 2 ^ s + l < 2 ^ (s + w)
middle_below s w m l hm hl = subst (λ (b : ℕ). m * 2 ^ s + l < b) (sym (pow-add 2 s w)) (mul-add-lt m (2 ^ s) l (2 ^ w) hm hl)

-- the number of a high, a middle and a low part
parts_below : (s w h m l : ℕ) → s + w ≤ 32 → h < 2 ^ (32 - (s + w)) → m < 2 ^ w → l < 2 ^ s → h * 2 ^ (s + w) + (m * 2 ^ s + l) < 2 ^ 32
parts_below s w h m l le hh hm hl =
    let sum : (s + w) + (32 - (s + w)) ≡ 32 = omega arith in
    let whole : 2 ^ (s + w) * 2 ^ (32 - (s + w)) ≡ 2 ^ 32 = sym (pow-add 2 (s + w) (32 - (s + w))) ∙ ap (λ k. 2 ^ k) sum in
    subst (λ (b : ℕ). h * 2 ^ (s + w) + (m * 2 ^ s + l) < b) whole (mul-add-lt h (2 ^ (s + w)) (m * 2 ^ s + l) (2 ^ (32 - (s + w))) hh (middle_below s w m l hm hl))

-- the bits above fit in what is left
high_below : (n t : ℕ) → n < 2 ^ 32 → t ≤ 32 → n / 2 ^ t < 2 ^ (32 - t)
high_below n t h le = let sum : 32 ≡ (32 - t) + t = omega arith in shr_below n (32 - t) t (subst (λ (k : ℕ). n < 2 ^ k) sum h)

all_below : (s w n m l : ℕ) → s + w ≤ 32 → n < 2 ^ 32 → m < 2 ^ w → l < 2 ^ s → n / 2 ^ (s + w) * 2 ^ (s + w) + (m * 2 ^ s + l) < 2 ^ 32
all_below s w n m l le h hm hl = parts_below s w (n / 2 ^ (s + w)) m l le (high_below n (s + w) h le) hm hl

pub fits : (s w n new m l : ℕ) → s + w ≤ 32 → n < 2 ^ 32 → m ≡ new % 2 ^ w → l ≡ n % 2 ^ s → n / 2 ^ (s + w) * 2 ^ (s + w) + (m * 2 ^ s + l) < 2 ^ 32
fits s w n new m l le h em el = all_below s w n m l le h (subst (λ (x : ℕ). x < 2 ^ w) (sym em) (low_below new w)) (subst (λ (x : ℕ). x < 2 ^ s) (sym el) (low_below n s))

-- a number of 32 bits stays one
pub replaced_below : (s w new n : ℕ) → s + w ≤ 32 → n < 2 ^ 32 → with_bits s w new n < 2 ^ 32
replaced_below s w new n le h = omega (arith, all_below s w n (new % 2 ^ w) (n % 2 ^ s) le h (low_below new w) (low_below n s))

-- as a high and a low part, at both ends of the bits
at_end : (s w new n : ℕ) → with_bits s w new n ≡ n / 2 ^ (s + w) * 2 ^ (s + w) + (new % 2 ^ w * 2 ^ s + n % 2 ^ s)
at_end s w new n = omega arith

at_start : (s w new n : ℕ) → with_bits s w new n ≡ (n / 2 ^ (s + w) * 2 ^ w + new % 2 ^ w) * 2 ^ s + n % 2 ^ s
at_start s w new n =
    let power : 2 ^ (s + w) ≡ 2 ^ w * 2 ^ s = pow-add 2 s w ∙ mul_comm (2 ^ s) (2 ^ w) in
    ap (λ p. n / 2 ^ (s + w) * p + new % 2 ^ w * 2 ^ s + n % 2 ^ s) power ∙ omega arith

-- the new bits
pub bits_replaced : (s w new n : ℕ) → bits_from s w (with_bits s w new n) ≡ new % 2 ^ w
bits_replaced s w new n =
    ap (λ x. x / 2 ^ s % 2 ^ w) (at_start s w new n)
    ∙ ap (λ x. x % 2 ^ w) (shr_high (n / 2 ^ (s + w) * 2 ^ w + new % 2 ^ w) s (n % 2 ^ s) (low_below n s))
    ∙ mod_low (n / 2 ^ (s + w)) w (new % 2 ^ w) (low_below new w)

-- low bits of low bits
low_of_low : (n j k : ℕ) → n % 2 ^ (j + k) % 2 ^ k ≡ n % 2 ^ k
low_of_low n j k = ap (λ x. x % 2 ^ k) (mod-pow-add n j k) ∙ mod_low (n / 2 ^ k % 2 ^ j) k (n % 2 ^ k) (low_below n k)

low_alike : (x y s k : ℕ) → k ≤ s → x % 2 ^ s ≡ y % 2 ^ s → x % 2 ^ k ≡ y % 2 ^ k
low_alike x y s k le e =
    let sum : s ≡ (s - k) + k = omega arith in
    let e1 : x % 2 ^ ((s - k) + k) ≡ y % 2 ^ ((s - k) + k) = subst (λ (t : ℕ). x % 2 ^ t ≡ y % 2 ^ t) sum e in
    sym (low_of_low x (s - k) k) ∙ ap (λ z. z % 2 ^ k) e1 ∙ low_of_low y (s - k) k

-- bits below and above are as before
pub bits_below_stay : (s w new n t v : ℕ) → t + v ≤ s → bits_from t v (with_bits s w new n) ≡ bits_from t v n
bits_below_stay s w new n t v le =
    let low : with_bits s w new n % 2 ^ s ≡ n % 2 ^ s = ap (λ x. x % 2 ^ s) (at_start s w new n) ∙ mod_low (n / 2 ^ (s + w) * 2 ^ w + new % 2 ^ w) s (n % 2 ^ s) (low_below n s) in
    sym (field_of (with_bits s w new n) v t) ∙ ap (λ x. x / 2 ^ t) (low_alike (with_bits s w new n) n s (v + t) (omega arith) low) ∙ field_of n v t

pub bits_above_stay : (s w new n t v : ℕ) → s + w ≤ t → bits_from t v (with_bits s w new n) ≡ bits_from t v n
bits_above_stay s w new n t v le =
    let high : with_bits s w new n / 2 ^ (s + w) ≡ n / 2 ^ (s + w) = ap (λ x. x / 2 ^ (s + w)) (at_end s w new n) ∙ shr_high (n / 2 ^ (s + w)) (s + w) (new % 2 ^ w * 2 ^ s + n % 2 ^ s) (middle_below s w (new % 2 ^ w) (n % 2 ^ s) (low_below new w) (low_below n s)) in
    let sum : (s + w) + (t - (s + w)) ≡ t = omega arith in
    let shifted : with_bits s w new n / 2 ^ t ≡ n / 2 ^ t = subst (λ (u : ℕ). with_bits s w new n / 2 ^ u ≡ n / 2 ^ u) sum (sym (shr-shr (with_bits s w new n) (s + w) (t - (s + w))) ∙ ap (λ x. x / 2 ^ (t - (s + w))) high ∙ shr-shr n (s + w) (t - (s + w))) in
    ap (λ x. x % 2 ^ v) shifted
