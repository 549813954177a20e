-- A unit with a field's bits replaced, bit by bit.
use Rattle.std.specs.Prelude.{◌≡◌, ◌≤◌, ◌<◌, ◌⊎◌, ℕ, ◌+◌, ◌-◌, ◌*◌, ◌/◌, ◌%◌, ◌^◌}
use Rattle.std.specs.Int.{bit_at, w32}
use Rattle.std.proofs.Common.{sym, ap, ◌∙◌, arith, inl, inr}
use Rattle.std.proofs.Math.Nat.{mod-eq_of_lt}
use Rattle.std.proofs.lemmas.Bool.{cases_lt}
use Rattle.std.proofs.lemmas.Nat.{pow_pos, pow_below, shr-shr, shr_split, shl_below}
use Rattle.std.proofs.lemmas.Nat.Bits.{bit_at_not, bit_at_ones, bit_at_ones_above, bit_at_cat_low, bit_at_cat_high, bit_at-zero, bit_at_above}
use Rattle.objects.proofs.lemmas.BitLaws.{low_below, middle_below}
use Rattle.objects.specs.Fields.{with_bits}

-- ---- the bits of a number that is made of parts

low_bit : (n s i : ℕ) → i < s → bit_at (n % 2 ^ s) i ≡ bit_at n i
low_bit n s i h = sym (bit_at_cat_low (n / 2 ^ s) s (n % 2 ^ s) i h) ∙ ap (λ (x : ℕ). bit_at x i) (shr_split n s)

-- a bit of a unit in which a field was replaced
replaced_as : (s w new n : ℕ) → with_bits s w new n ≡ n / 2 ^ (s + w) * 2 ^ (s + w) + (new % 2 ^ w * 2 ^ s + n % 2 ^ s)
replaced_as s w new n = omega arith

below : (s w new n i : ℕ) → i < s → bit_at (with_bits s w new n) i ≡ bit_at n i
below s w new n i h =
    ap (λ (x : ℕ). bit_at x i) (replaced_as s w new n)
    ∙ bit_at_cat_low (n / 2 ^ (s + w)) (s + w) (new % 2 ^ w * 2 ^ s + n % 2 ^ s) i (omega arith)
    ∙ bit_at_cat_low (new % 2 ^ w) s (n % 2 ^ s) i h
    ∙ low_bit n s i h

inside : (s w new n i : ℕ) → s ≤ i → i < s + w → bit_at (with_bits s w new n) i ≡ bit_at (new % 2 ^ w) (i - s)
inside s w new n i h k =
    ap (λ (x : ℕ). bit_at x i) (replaced_as s w new n)
    ∙ bit_at_cat_low (n / 2 ^ (s + w)) (s + w) (new % 2 ^ w * 2 ^ s + n % 2 ^ s) i k
    ∙ bit_at_cat_high (new % 2 ^ w) s (n % 2 ^ s) i (low_below n s) h

high_bit : (n s i : ℕ) → s ≤ i → bit_at (n / 2 ^ s) (i - s) ≡ bit_at n i
high_bit n s i h = let sum : s + (i - s) ≡ i = omega arith in ap (λ (x : ℕ). x % 2) (shr-shr n s (i - s) ∙ ap (λ (k : ℕ). n / 2 ^ k) sum)

above : (s w new n i : ℕ) → s + w ≤ i → bit_at (with_bits s w new n) i ≡ bit_at n i
above s w new n i h =
    ap (λ (x : ℕ). bit_at x i) (replaced_as s w new n)
    ∙ bit_at_cat_high (n / 2 ^ (s + w)) (s + w) (new % 2 ^ w * 2 ^ s + n % 2 ^ s) i (middle_below s w (new % 2 ^ w) (n % 2 ^ s) (low_below new w) (low_below n s)) h
    ∙ high_bit n (s + w) i h

-- a bit of a part that stands at a place
part_below : (m s i : ℕ) → i < s → bit_at (m * 2 ^ s) i ≡ 0
part_below m s i h = ap (λ (x : ℕ). bit_at x i) (let e : m * 2 ^ s ≡ m * 2 ^ s + 0 = omega arith in e) ∙ bit_at_cat_low m s 0 i h ∙ bit_at-zero i

part_from : (m s i : ℕ) → s ≤ i → bit_at (m * 2 ^ s) i ≡ bit_at m (i - s)
part_from m s i h = ap (λ (x : ℕ). bit_at x i) (let e : m * 2 ^ s ≡ m * 2 ^ s + 0 = omega arith in e) ∙ bit_at_cat_high m s 0 i (pow_pos s) h

-- ---- the bits of a field, and the others

pow_le : (i j : ℕ) → i ≤ j → 2 ^ i ≤ 2 ^ j
pow_le i j h = elim (cases_lt i j) [
  | inl lt ↦ (let p = pow_below i j lt in omega (arith, p))
  | inr ge ↦ (let e : i ≡ j = omega (arith, ge, h) in let f : 2 ^ i ≡ 2 ^ j = ap (λ (k : ℕ). 2 ^ k) e in omega (arith, f))
]

field_below : (s w : ℕ) → s + w ≤ 32 → (2 ^ w - 1) * 2 ^ s < 2 ^ 32
field_below s w le =
    let few : (2 ^ w - 1) * 2 ^ s < 2 ^ (w + s) = shl_below (2 ^ w - 1) w s (let p = pow_pos w in omega (arith, p)) in
    let most : 2 ^ (w + s) ≤ 2 ^ 32 = pow_le (w + s) 32 (omega arith) in
    omega (arith, few, most)

outer_bit : (s w i : ℕ) → s + w ≤ 32 → i < 32 → bit_at (2 ^ 32 - 1 - (2 ^ w - 1) * 2 ^ s) i ≡ 1 - bit_at ((2 ^ w - 1) * 2 ^ s) i
outer_bit s w i le h = bit_at_not w32 ((2 ^ w - 1) * 2 ^ s) i (field_below s w le) h

-- Of each bit below 2^32: either it is none of the field's, and so stays; or it is one of the field's, which gets the new one.
pub record IsOuter (s w new n i : ℕ) : Type 0 where
  pub same : (m x : ℕ) → bit_at (with_bits s w x m) i ≡ bit_at m i
  pub kept : bit_at (2 ^ 32 - 1 - (2 ^ w - 1) * 2 ^ s) i ≡ 1
  pub free : bit_at (new % 2 ^ w * 2 ^ s) i ≡ 0

pub record IsInner (s w new n i : ℕ) : Type 0 where
  pub known : (m : ℕ) → bit_at (with_bits s w (2 ^ w - 1) m) i ≡ 1
  pub taken : (m : ℕ) → bit_at (with_bits s w new m) i ≡ bit_at (new % 2 ^ w * 2 ^ s) i
  pub cleared : bit_at (2 ^ 32 - 1 - (2 ^ w - 1) * 2 ^ s) i ≡ 0

outer_below : (s w new n i : ℕ) → s + w ≤ 32 → i < 32 → i < s → IsOuter s w new n i
outer_below s w new n i le h k = record {
  same = λ m x. below s w x m i k;
  kept = (let e = outer_bit s w i le h in let f = part_below (2 ^ w - 1) s i k in e ∙ ap (λ (x : ℕ). 1 - x) f);
  free = part_below (new % 2 ^ w) s i k;
}

outer_above : (s w new n i : ℕ) → s + w ≤ 32 → i < 32 → s + w ≤ i → IsOuter s w new n i
outer_above s w new n i le h k = record {
  same = λ m x. above s w x m i k;
  kept = outer_bit s w i le h ∙ ap (λ (x : ℕ). 1 - x) (part_from (2 ^ w - 1) s i (omega arith) ∙ bit_at_ones_above w (i - s) (omega arith));
  free = part_from (new % 2 ^ w) s i (omega arith) ∙ bit_at_above (new % 2 ^ w) w (i - s) (low_below new w) (omega arith);
}

full_low : (w : ℕ) → (2 ^ w - 1) % 2 ^ w ≡ 2 ^ w - 1
full_low w = let p = pow_pos w in let lt : 2 ^ w - 1 < 2 ^ w = omega (arith, p) in mod-eq_of_lt lt

inner : (s w new n i : ℕ) → s + w ≤ 32 → i < 32 → s ≤ i → i < s + w → IsInner s w new n i
inner s w new n i le h k l = record {
  known = λ m. inside s w (2 ^ w - 1) m i k l ∙ ap (λ (x : ℕ). bit_at x (i - s)) (full_low w) ∙ bit_at_ones w (i - s) (omega arith);
  taken = λ m. inside s w new m i k l ∙ sym (part_from (new % 2 ^ w) s i k);
  cleared = outer_bit s w i le h ∙ ap (λ (x : ℕ). 1 - x) (part_from (2 ^ w - 1) s i k ∙ bit_at_ones w (i - s) (omega arith));
}

pub each_bit : (s w new n i : ℕ) → s + w ≤ 32 → i < 32 → IsOuter s w new n i ⊎ IsInner s w new n i
each_bit s w new n i le h = elim (cases_lt i s) [
  | inl lt ↦ inl (outer_below s w new n i le h lt)
  | inr ge ↦ elim (cases_lt i (s + w)) [
    | inl lt ↦ inr (inner s w new n i le h ge lt)
    | inr far ↦ inl (outer_above s w new n i le h far)
  ]
]
