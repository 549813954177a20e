-- Lemmas: numbers that a word may be have its known bits; and what an operation makes of such numbers has the known bits of
-- its result.
use Rattle.std.specs.Prelude.{◌≡◌, ◌<◌, ◌≤◌, ℕ, pos, negsuc, zero, suc, ◌+◌, ◌-◌, ◌*◌, ◌/◌, ◌%◌, ◌^◌, min, max, bit_and, bit_or, bit_xor}
use Rattle.std.specs.Int.{bit_at}
use Rattle.std.proofs.Common.{sym, ap, subst, subst₂, ◌∙◌, arith, inl, inr}
use Rattle.std.proofs.Math.Nat.{mul_comm}
use Rattle.std.proofs.lemmas.Bool.{cases_lt}
use Rattle.std.proofs.lemmas.Int.{ints}
use Rattle.std.proofs.lemmas.Nat.{and_shr, and_mod, and-not, and_le_l, shr_high, mod_low, mod_below, pow_pos, pow-add, shr_below, shr_le}
use Rattle.std.proofs.Math.Facts.{to_z-neg}
use Rattle.std.specs.Int.{int_shr, w32}
use Rattle.std.specs.Int.Bits.{and_self, and_zero_l, and_zero_r, xor_add_and}
use Rattle.objects.specs.Arithmetic.{signed_of, word_of}
use Rattle.std.proofs.lemmas.Nat.Bits.{bit_at-lt, bit_at_and, bit_at_or, bit_at_xor, same_from_bits}
use Rattle.forests.specs.Bits.{KnownBits, bits_and, bits_or, bits_xor, bits_complement, bits_left, bits_right, bits_right_signed}
use Rattle.forests.specs.BitLaws.{Has}

within_bit : (x a : ℕ) → min a (min x a) ≡ min x a
within_bit x a = omega arith

less_one : (a b : ℕ) → 0 < a → (a - 1) * b + b ≡ a * b
less_one zero b h = absurd (let never : ⊥ = omega arith in never)
less_one (suc a) b h = let e : suc a - 1 ≡ a = omega arith in ap (λ (x : ℕ). x * b + b) e ∙ omega arith

no_parts : (o j x : ℕ) → 0 * o * j + x ≡ x
no_parts o j x = grind arith

one_part : (o j x : ℕ) → 1 * o * j + x ≡ o * j + x
one_part o j x = grind arith

zero_times : (o : ℕ) → 0 * o ≡ 0
zero_times o = omega arith

three : (c q b : ℕ) → (c + q + 1) * b ≡ c * b + q * b + b
three c q b = grind arith

rest_times : (a q b : ℕ) → q < a → (a - 1 - q) * b + q * b + b ≡ a * b
rest_times a q b h = let e : a ≡ (a - 1 - q) + q + 1 = omega (arith, h) in sym (ap (λ (x : ℕ). x * b) e ∙ three (a - 1 - q) q b)

-- one bit, of numbers x and y with masks a and b
and_bit : (x y a b : ℕ) → x < 2 → y < 2 → a < 2 → b < 2 → min (min x y) (max (min a b) (max ((a + min x a) % 2) ((b + min y b) % 2))) ≡ min (min x a) (min y b)
and_bit x y a b hx hy ha hb = omega arith

or_bit : (x y a b : ℕ) → x < 2 → y < 2 → a < 2 → b < 2 → min (max x y) (max (min a b) (max (min x a) (min y b))) ≡ max (min x a) (min y b)
or_bit x y a b hx hy ha hb = omega arith

xor_bit : (x y a b : ℕ) → x < 2 → y < 2 → a < 2 → b < 2 → min ((x + y) % 2) (min a b) ≡ min ((min x a + min y b) % 2) (min a b)
xor_bit x y a b hx hy ha hb = omega arith

not_bit : (x a : ℕ) → x < 2 → a < 2 → min (1 - x) a ≡ (a + min x a) % 2
not_bit x a hx ha = omega arith

and_numbers : (x y a b : ℕ) → bit_and (bit_and x y) (bit_or (bit_and a b) (bit_or (bit_xor a (bit_and x a)) (bit_xor b (bit_and y b)))) ≡ bit_and (bit_and x a) (bit_and y b)
and_numbers x y a b =
    same_from_bits _ _ (λ i. simp (bit_at_and, bit_at_or, bit_at_xor) (and_bit (bit_at x i) (bit_at y i) (bit_at a i) (bit_at b i) (bit_at-lt x i) (bit_at-lt y i) (bit_at-lt a i) (bit_at-lt b i)))

or_numbers : (x y a b : ℕ) → bit_and (bit_or x y) (bit_or (bit_and a b) (bit_or (bit_and x a) (bit_and y b))) ≡ bit_or (bit_and x a) (bit_and y b)
or_numbers x y a b =
    same_from_bits _ _ (λ i. simp (bit_at_and, bit_at_or) (or_bit (bit_at x i) (bit_at y i) (bit_at a i) (bit_at b i) (bit_at-lt x i) (bit_at-lt y i) (bit_at-lt a i) (bit_at-lt b i)))

xor_numbers : (x y a b : ℕ) → bit_and (bit_xor x y) (bit_and a b) ≡ bit_and (bit_xor (bit_and x a) (bit_and y b)) (bit_and a b)
xor_numbers x y a b =
    same_from_bits _ _ (λ i. simp (bit_at_and, bit_at_xor) (xor_bit (bit_at x i) (bit_at y i) (bit_at a i) (bit_at b i) (bit_at-lt x i) (bit_at-lt y i) (bit_at-lt a i) (bit_at-lt b i)))

pub and_has : (x y : ℕ) (a b : KnownBits) → Has x a → Has y b → Has (bit_and x y) (bits_and a b)
and_has x y a b h k =
    subst₂ (λ (v w : ℕ). bit_and (bit_and x y) (bit_or (bit_and a.known b.known) (bit_or (bit_xor a.known v) (bit_xor b.known w))) ≡ bit_and v w) h k (and_numbers x y a.known b.known)

pub or_has : (x y : ℕ) (a b : KnownBits) → Has x a → Has y b → Has (bit_or x y) (bits_or a b)
or_has x y a b h k =
    subst₂ (λ (v w : ℕ). bit_and (bit_or x y) (bit_or (bit_and a.known b.known) (bit_or v w)) ≡ bit_or v w) h k (or_numbers x y a.known b.known)

pub xor_has : (x y : ℕ) (a b : KnownBits) → Has x a → Has y b → Has (bit_xor x y) (bits_xor a b)
xor_has x y a b h k =
    subst₂ (λ (v w : ℕ). bit_and (bit_xor x y) (bit_and a.known b.known) ≡ bit_and (bit_xor v w) (bit_and a.known b.known)) h k (xor_numbers x y a.known b.known)

-- ---- the complement

within : (n a : ℕ) → bit_and a (bit_and n a) ≡ bit_and n a
within n a = same_from_bits _ _ (λ i. simp bit_at_and (within_bit (bit_at n i) (bit_at a i)))

complement_numbers : (n a : ℕ) → n < 2 ^ 32 → a < 2 ^ 32 → bit_and (2 ^ 32 - 1 - n) a ≡ bit_xor a (bit_and n a)
complement_numbers n a hn ha =
    let not : bit_and (2 ^ 32 - 1 - n) a + bit_and n a ≡ a = and-not 32 n a hn ha in
    let xor : bit_xor a (bit_and n a) + bit_and a (bit_and n a) * 2 ≡ a + bit_and n a = xor_add_and a (bit_and n a) in
    let same : bit_and a (bit_and n a) ≡ bit_and n a = within n a in
    omega (arith, not, xor, same)

pub complement_has : (n : ℕ) (a : KnownBits) → n < 2 ^ 32 → a.known < 2 ^ 32 → Has n a → Has (2 ^ 32 - 1 - n) (bits_complement a)
complement_has n a hn ha h = complement_numbers n a.known hn ha ∙ ap (λ (v : ℕ). bit_xor a.known v) h

-- ---- shifts

ones_below : (k : ℕ) → 2 ^ k - 1 < 2 ^ k
ones_below k = omega (arith, pow_pos k)

divided : (n m : ℕ) → n ≡ n / m * m + n % m
divided n m = omega (arith, mul_comm m (n / m))

-- a number by its low bits and the rest
by_parts : (n k high low : ℕ) → n / 2 ^ k ≡ high → n % 2 ^ k ≡ low → n ≡ high * 2 ^ k + low
by_parts n k high low h l = divided n (2 ^ k) ∙ ap (λ (y : ℕ). y * 2 ^ k + n % 2 ^ k) h ∙ ap (λ (y : ℕ). high * 2 ^ k + y) l

left_numbers : (x m k : ℕ) → bit_and (x * 2 ^ k) (m * 2 ^ k + (2 ^ k - 1)) ≡ bit_and x m * 2 ^ k
left_numbers x m k =
    let n = bit_and (x * 2 ^ k + 0) (m * 2 ^ k + (2 ^ k - 1)) in
    let zero_in : x * 2 ^ k ≡ x * 2 ^ k + 0 = omega arith in
    let high : n / 2 ^ k ≡ bit_and x m =
    and_shr (x * 2 ^ k + 0) (m * 2 ^ k + (2 ^ k - 1)) k
    ∙ ap (λ (y : ℕ). bit_and y ((m * 2 ^ k + (2 ^ k - 1)) / 2 ^ k)) (shr_high x k 0 (pow_pos k))
    ∙ ap (λ (y : ℕ). bit_and x y) (shr_high m k (2 ^ k - 1) (ones_below k)) in
    let low : n % 2 ^ k ≡ 0 =
    and_mod (x * 2 ^ k + 0) (m * 2 ^ k + (2 ^ k - 1)) k
    ∙ ap (λ (y : ℕ). bit_and y ((m * 2 ^ k + (2 ^ k - 1)) % 2 ^ k)) (mod_low x k 0 (pow_pos k))
    ∙ and_zero_l ((m * 2 ^ k + (2 ^ k - 1)) % 2 ^ k) in
    ap (λ (y : ℕ). bit_and y (m * 2 ^ k + (2 ^ k - 1))) zero_in ∙ by_parts n k (bit_and x m) 0 high low ∙ omega arith

pub left_has : (count n : ℕ) (a : KnownBits) → Has n a → Has ((n * 2 ^ count) % 2 ^ 32) (bits_left count a)
left_has count n a h =
    sym (and_mod (n * 2 ^ count) (a.known * 2 ^ count + (2 ^ count - 1)) 32)
    ∙ ap (λ (y : ℕ). y % 2 ^ 32) (left_numbers n a.known count ∙ ap (λ (y : ℕ). y * 2 ^ count) h)

-- high bits and low ones, each by themselves
pub and_parts : (j x1 x0 m1 m0 : ℕ) → x0 < 2 ^ j → m0 < 2 ^ j → bit_and (x1 * 2 ^ j + x0) (m1 * 2 ^ j + m0) ≡ bit_and x1 m1 * 2 ^ j + bit_and x0 m0
and_parts j x1 x0 m1 m0 hx hm =
    let n = bit_and (x1 * 2 ^ j + x0) (m1 * 2 ^ j + m0) in
    let high : n / 2 ^ j ≡ bit_and x1 m1 =
    and_shr (x1 * 2 ^ j + x0) (m1 * 2 ^ j + m0) j
    ∙ ap (λ (y : ℕ). bit_and y ((m1 * 2 ^ j + m0) / 2 ^ j)) (shr_high x1 j x0 hx)
    ∙ ap (λ (y : ℕ). bit_and x1 y) (shr_high m1 j m0 hm) in
    let low : n % 2 ^ j ≡ bit_and x0 m0 =
    and_mod (x1 * 2 ^ j + x0) (m1 * 2 ^ j + m0) j
    ∙ ap (λ (y : ℕ). bit_and y ((m1 * 2 ^ j + m0) % 2 ^ j)) (mod_low x1 j x0 hx)
    ∙ ap (λ (y : ℕ). bit_and x0 y) (mod_low m1 j m0 hm) in
    by_parts n j (bit_and x1 m1) (bit_and x0 m0) high low

-- what is left of 32 bits, and the ones above it
pub rest_below : (count n : ℕ) → count ≤ 32 → n < 2 ^ 32 → n / 2 ^ count < 2 ^ (32 - count)
rest_below count n le h = let sum : 32 ≡ (32 - count) + count = omega arith in shr_below n (32 - count) count (subst (λ (k : ℕ). n < 2 ^ k) sum h)

ones_above : (count : ℕ) → count ≤ 32 → 2 ^ 32 - 2 ^ (32 - count) ≡ (2 ^ count - 1) * 2 ^ (32 - count)
ones_above count le =
    let sum : count + (32 - count) ≡ 32 = omega arith in
    let whole : 2 ^ 32 ≡ 2 ^ count * 2 ^ (32 - count) = ap (λ (k : ℕ). 2 ^ k) (sym sum) ∙ pow-add 2 count (32 - count) in
    let one : (2 ^ count - 1) * 2 ^ (32 - count) + 2 ^ (32 - count) ≡ 2 ^ count * 2 ^ (32 - count) = less_one (2 ^ count) (2 ^ (32 - count)) (pow_pos count) in
    omega (arith, whole, one)

right_numbers : (count x m : ℕ) → count ≤ 32 → x < 2 ^ 32 → m < 2 ^ 32 → bit_and (x / 2 ^ count) (m / 2 ^ count + (2 ^ 32 - 2 ^ (32 - count))) ≡ bit_and x m / 2 ^ count
right_numbers count x m le hx hm =
    let j = 32 - count in
    let full : m / 2 ^ count + (2 ^ 32 - 2 ^ j) ≡ (2 ^ count - 1) * 2 ^ j + m / 2 ^ count = omega (arith, ones_above count le) in
    let none : x / 2 ^ count ≡ 0 * 2 ^ j + x / 2 ^ count = omega arith in
    ap (λ (y : ℕ). bit_and (x / 2 ^ count) y) full
    ∙ ap (λ (y : ℕ). bit_and y ((2 ^ count - 1) * 2 ^ j + m / 2 ^ count)) none
    ∙ and_parts j 0 (x / 2 ^ count) (2 ^ count - 1) (m / 2 ^ count) (rest_below count x le hx) (rest_below count m le hm)
    ∙ ap (λ (y : ℕ). y * 2 ^ j + bit_and (x / 2 ^ count) (m / 2 ^ count)) (and_zero_l (2 ^ count - 1))
    ∙ (let e : 0 * 2 ^ j + bit_and (x / 2 ^ count) (m / 2 ^ count) ≡ bit_and (x / 2 ^ count) (m / 2 ^ count) = omega arith in e)
    ∙ sym (and_shr x m count)

pub right_has : (count n : ℕ) (a : KnownBits) → count < 32 → n < 2 ^ 32 → a.known < 2 ^ 32 → Has n a → Has (n / 2 ^ count) (bits_right count a)
right_has count n a lt hn ha h = right_numbers count n a.known (omega arith) hn ha ∙ ap (λ (v : ℕ). v / 2 ^ count) h

-- ---- the shift that copies the highest bit

pub signed_low : (x : ℕ) → x < 2 ^ 31 → signed_of x ≡ pos x
signed_low x h = omega (arith, ints)

pub signed_high : (x : ℕ) → 2 ^ 31 ≤ x → x < 2 ^ 32 → signed_of x ≡ negsuc (2 ^ 32 - 1 - x)
signed_high x l h =
    let e : x ≡ 2 ^ 32 - suc (2 ^ 32 - 1 - x) = omega (arith, l, h) in
    ap (λ (y : ℕ). signed_of y) e ∙ to_z-neg w32 (2 ^ 32 - 1 - x) (let b : 2 ^ 32 - 1 - x < 2 ^ 31 = omega (arith, l) in b)

pub word_low : (x : ℕ) → x < 2 ^ 32 → word_of (pos x) ≡ x
word_low x h = omega (arith, ints)

pub word_high : (x : ℕ) → x < 2 ^ 32 → word_of (negsuc x) ≡ 2 ^ 32 - 1 - x
word_high x h = omega (arith, ints)

-- a number shifted with its highest bit
abbrev shifted_signed : ℕ → ℕ → ℕ
shifted_signed count x = x / 2 ^ 31 * (2 ^ count - 1) * 2 ^ (32 - count) + x / 2 ^ count

complement_parts : (x count : ℕ) → count ≤ 32 → x < 2 ^ 32 → (2 ^ 32 - 1 - x) / 2 ^ count + x / 2 ^ count + 1 ≡ 2 ^ (32 - count)
complement_parts x count le h =
    let q = x / 2 ^ count in
    let r = x % 2 ^ count in
    let j = 32 - count in
    let parts : x ≡ q * 2 ^ count + r = divided x (2 ^ count) in
    let small : q < 2 ^ j = rest_below count x le h in
    let low : r < 2 ^ count = mod_below x (2 ^ count) (pow_pos count) in
    let sum : j + count ≡ 32 = omega (arith, le) in
    let whole : 2 ^ 32 ≡ 2 ^ j * 2 ^ count = ap (λ (k : ℕ). 2 ^ k) (sym sum) ∙ pow-add 2 j count in
    let two : (2 ^ j - 1 - q) * 2 ^ count + q * 2 ^ count + 2 ^ count ≡ 2 ^ j * 2 ^ count = rest_times (2 ^ j) q (2 ^ count) small in
    let is : 2 ^ 32 - 1 - x ≡ (2 ^ j - 1 - q) * 2 ^ count + (2 ^ count - 1 - r) = omega (arith, parts, whole, two, low) in
    let high : (2 ^ 32 - 1 - x) / 2 ^ count ≡ 2 ^ j - 1 - q = ap (λ (y : ℕ). y / 2 ^ count) is ∙ shr_high (2 ^ j - 1 - q) count (2 ^ count - 1 - r) (omega (arith, low)) in
    omega (arith, high, small)

highest : (x : ℕ) → x < 2 ^ 32 → (x < 2 ^ 31 → x / 2 ^ 31 ≡ 0) × (2 ^ 31 ≤ x → x / 2 ^ 31 ≡ 1)
highest x h = ((λ l. omega (arith, l)), (λ l. omega (arith, l, h)))

low_shifted : (count x : ℕ) → x < 2 ^ 31 → word_of (int_shr (signed_of x) count) ≡ shifted_signed count x
low_shifted count x l =
    let few : x / 2 ^ count ≤ x = shr_le x count in
    let none : x / 2 ^ 31 ≡ 0 = omega (arith, l) in
    ap (λ z. word_of (int_shr z count)) (signed_low x l)
    ∙ word_low (x / 2 ^ count) (omega (arith, few, l))
    ∙ sym (ap (λ (s : ℕ). s * (2 ^ count - 1) * 2 ^ (32 - count) + x / 2 ^ count) none ∙ no_parts (2 ^ count - 1) (2 ^ (32 - count)) (x / 2 ^ count))

high_shifted : (count x : ℕ) → count ≤ 32 → 2 ^ 31 ≤ x → x < 2 ^ 32 → word_of (int_shr (signed_of x) count) ≡ shifted_signed count x
high_shifted count x le l h =
    let y = 2 ^ 32 - 1 - x in
    let few : y / 2 ^ count ≤ y = shr_le y count in
    let one : x / 2 ^ 31 ≡ 1 = omega (arith, l, h) in
    let parts = complement_parts x count le h in
    let ones = ones_above count le in
    let is : 2 ^ 32 - 1 - y / 2 ^ count ≡ (2 ^ count - 1) * 2 ^ (32 - count) + x / 2 ^ count = omega (arith, parts, ones, few, l) in
    ap (λ z. word_of (int_shr z count)) (signed_high x l h)
    ∙ word_high (y / 2 ^ count) (omega (arith, few, l))
    ∙ is
    ∙ sym (ap (λ (s : ℕ). s * (2 ^ count - 1) * 2 ^ (32 - count) + x / 2 ^ count) one ∙ one_part (2 ^ count - 1) (2 ^ (32 - count)) (x / 2 ^ count))

shifted_is : (count x : ℕ) → count ≤ 32 → x < 2 ^ 32 → word_of (int_shr (signed_of x) count) ≡ shifted_signed count x
shifted_is count x le h = elim (cases_lt x (2 ^ 31)) [ inl l ↦ low_shifted count x l | inr l ↦ high_shifted count x le l h ]

same_ones : (s t o : ℕ) → s < 2 → t < 2 → bit_and (s * o) (t * o) ≡ bit_and s t * o
same_ones zero t o hs ht = ap (λ (y : ℕ). bit_and y (t * o)) (zero_times o) ∙ and_zero_l (t * o) ∙ sym (ap (λ (y : ℕ). y * o) (and_zero_l t) ∙ zero_times o)
same_ones (suc zero) zero o hs ht = ap (λ (y : ℕ). bit_and (1 * o) y) (zero_times o) ∙ and_zero_r (1 * o) ∙ sym (zero_times o)
same_ones (suc zero) (suc zero) o hs ht = and_self (1 * o)
same_ones (suc zero) (suc (suc t)) o hs ht = absurd (let never : ⊥ = omega arith in never)
same_ones (suc (suc s)) t o hs ht = absurd (let never : ⊥ = omega arith in never)

signed_numbers : (count x m : ℕ) → count ≤ 32 → x < 2 ^ 32 → m < 2 ^ 32 → bit_and (shifted_signed count x) (shifted_signed count m) ≡ shifted_signed count (bit_and x m)
signed_numbers count x m le hx hm =
    let o = 2 ^ count - 1 in
    let j = 32 - count in
    and_parts j (x / 2 ^ 31 * o) (x / 2 ^ count) (m / 2 ^ 31 * o) (m / 2 ^ count) (rest_below count x le hx) (rest_below count m le hm)
    ∙ ap (λ (y : ℕ). y * 2 ^ j + bit_and (x / 2 ^ count) (m / 2 ^ count)) (same_ones (x / 2 ^ 31) (m / 2 ^ 31) o (omega (arith, hx)) (omega (arith, hm)) ∙ ap (λ (y : ℕ). y * o) (sym (and_shr x m 31)))
    ∙ ap (λ (y : ℕ). bit_and x m / 2 ^ 31 * o * 2 ^ j + y) (sym (and_shr x m count))

pub right_signed_has : (count n : ℕ) (a : KnownBits) → count < 32 → n < 2 ^ 32 → a.known < 2 ^ 32 → Has n a → Has (word_of (int_shr (signed_of n) count)) (bits_right_signed count a)
right_signed_has count n a lt hn ha h =
    let few : bit_and n a.known ≤ n = and_le_l n a.known in
    ap (λ (y : ℕ). bit_and y (word_of (int_shr (signed_of a.known) count))) (shifted_is count n (omega (arith, lt)) hn)
    ∙ ap (λ (y : ℕ). bit_and (shifted_signed count n) y) (shifted_is count a.known (omega (arith, lt)) ha)
    ∙ signed_numbers count n a.known (omega (arith, lt)) hn ha
    ∙ sym (shifted_is count (bit_and n a.known) (omega (arith, lt)) (omega (arith, few, hn)))
    ∙ ap (λ (v : ℕ). word_of (int_shr (signed_of v) count)) h

signed_below_low : (count x : ℕ) → x < 2 ^ 31 → word_of (int_shr (signed_of x) count) < 2 ^ 32
signed_below_low count x l =
    let few : x / 2 ^ count ≤ x = shr_le x count in
    let is : word_of (int_shr (signed_of x) count) ≡ x / 2 ^ count = ap (λ z. word_of (int_shr z count)) (signed_low x l) ∙ word_low (x / 2 ^ count) (omega (arith, few, l)) in
    subst (λ (n : ℕ). n < 2 ^ 32) (sym is) (omega (arith, few, l))

signed_below_high : (count x : ℕ) → 2 ^ 31 ≤ x → x < 2 ^ 32 → word_of (int_shr (signed_of x) count) < 2 ^ 32
signed_below_high count x l h =
    let y = 2 ^ 32 - 1 - x in
    let few : y / 2 ^ count ≤ y = shr_le y count in
    let is : word_of (int_shr (signed_of x) count) ≡ 2 ^ 32 - 1 - y / 2 ^ count = ap (λ z. word_of (int_shr z count)) (signed_high x l h) ∙ word_high (y / 2 ^ count) (omega (arith, few, l)) in
    subst (λ (n : ℕ). n < 2 ^ 32) (sym is) (omega arith)

pub signed_below : (count x : ℕ) → x < 2 ^ 32 → word_of (int_shr (signed_of x) count) < 2 ^ 32
signed_below count x h = elim (cases_lt x (2 ^ 31)) [ inl l ↦ signed_below_low count x l | inr l ↦ signed_below_high count x l h ]
