-- A bit-field that is read: its bits are raised to the top of the word, and lowered again with its sign or without.
use Rattle.std.specs.Prelude.{◌≡◌, ◌≤◌, ◌<◌, ◌⊎◌, ℕ, ◌+◌, ◌-◌, ◌*◌, ◌/◌, ◌%◌, ◌^◌, ◌==◌, nat_lt, bit_and, Bool, true, false, Some, None, if◌then◌else◌}
use Rattle.std.specs.Int.{int_shr}
use Rattle.std.proofs.Common.{refl, sym, ap, subst, inl, inr, ◌∙◌, arith}
use Rattle.std.proofs.Math.Nat.{mod-eq_of_lt}
use Rattle.std.proofs.lemmas.Bool.{cases_lt, eq-eqb, lt-ltb}
use Rattle.std.proofs.lemmas.Nat.{pow_pos, pow-add, pow_below, shr-shr, field_of, mod_below, shr_below, shr_le, div-mul-add, div-add-mod', le-div, and_le_r, and_mask, and_shr, and_mod}
use Rattle.objects.specs.declared.operators.Binary.TheVariants as binary
use Rattle.objects.specs.declared.value.Value.TheVariants.{Number, Pointer, Function}
use Rattle.objects.specs.Arithmetic.{signed_of, word_of, binary_word}
use Rattle.objects.proofs.lemmas.BitLaws.{low_below}
use Rattle.objects.specs.Causes.{bits_from}
use Rattle.objects.specs.Conversions.{sign_extended, extended}
use Rattle.forests.proofs.lemmas.BitLaws.{signed_low, signed_high, word_low, word_high}
use Rattle.forests.specs.Bits.{KnownBits, bits_left, shifted}
use Rattle.forests.specs.Words.{Word, Plain, Label, Partly, known_word}
use Rattle.c_match_fields.specs.FieldReads.{right_bits}
use Rattle.c_match_objects.proofs.lemmas.Reached.{not_before}
use Rattle.c_match_fields.proofs.lemmas.UnitWords.{Covers}

-- ---- numbers

power : (a b n : ℕ) → a + b ≡ n → 2 ^ n ≡ 2 ^ a * 2 ^ b
power a b n e = ap (λ (k : ℕ). 2 ^ k) (sym e) ∙ pow-add 2 a b

twice : (w : ℕ) → 1 ≤ w → 2 ^ w ≡ 2 ^ (w - 1) + 2 ^ (w - 1)
twice w h = let e : (w - 1) + 1 ≡ w = omega arith in let p = power (w - 1) 1 w e in omega (arith, p)

pow_le : (i j : ℕ) → i ≤ j → 2 ^ i ≤ 2 ^ j
pow_le i j h = elim (cases_lt i j) [
  | inl lt ↦ (let p = pow_below i j lt in omega (arith, p))
  | inr ge ↦ (let e : i ≡ j = omega (arith, ge, h) in let f : 2 ^ i ≡ 2 ^ j = ap (λ (k : ℕ). 2 ^ k) e in omega (arith, f))
]

-- the top bits of a word whose field was raised
top_bits : (s w m b : ℕ) → s + w ≤ 32 → b < 2 ^ (32 - (s + w)) → (m * 2 ^ (32 - (s + w)) + b) % 2 ^ 32 / 2 ^ (32 - w) ≡ m / 2 ^ s % 2 ^ w
top_bits s w m b le h =
    let up = 32 - (s + w) in
    let n = m * 2 ^ up + b in
    let whole : w + (32 - w) ≡ 32 = omega (arith, le) in
    let sum : up + s ≡ 32 - w = omega (arith, le) in
    let first : n % 2 ^ 32 / 2 ^ (32 - w) ≡ n / 2 ^ (32 - w) % 2 ^ w = ap (λ (k : ℕ). n % 2 ^ k / 2 ^ (32 - w)) (sym whole) ∙ field_of n w (32 - w) in
    let second : n / 2 ^ (32 - w) ≡ m / 2 ^ s = ap (λ (k : ℕ). n / 2 ^ k) (sym sum) ∙ sym (shr-shr n up s) ∙ ap (λ (x : ℕ). x / 2 ^ s) (div-mul-add m (2 ^ up) b h) in
    first ∙ ap (λ (x : ℕ). x % 2 ^ w) second

sum_of : (a q p : ℕ) → q < a → (a - 1 - q) * p + q * p + p ≡ a * p
sum_of a q p h =
    let e : a ≡ (a - 1 - q) + q + 1 = omega (arith, h) in
    sym (ap (λ (x : ℕ). x * p) e ∙ (let f : ((a - 1 - q) + q + 1) * p ≡ (a - 1 - q) * p + q * p + p = grind arith in f))

-- the complement, shifted
complement_shifted : (w x : ℕ) → w ≤ 32 → x < 2 ^ 32 → (2 ^ 32 - 1 - x) / 2 ^ (32 - w) ≡ 2 ^ w - 1 - x / 2 ^ (32 - w)
complement_shifted w x le h =
    let p = 2 ^ (32 - w) in
    let q = x / p in
    let r = x % p in
    let parts : q * p + r ≡ x = div-add-mod' x p in
    let all : w + (32 - w) ≡ 32 = omega (arith, le) in
    let whole : 2 ^ 32 ≡ 2 ^ w * p = power w (32 - w) 32 all in
    let small : q < 2 ^ w = shr_below x w (32 - w) (subst (λ (k : ℕ). x < 2 ^ k) (sym all) h) in
    let low : r < p = mod_below x p (pow_pos (32 - w)) in
    let two : (2 ^ w - 1 - q) * p + q * p + p ≡ 2 ^ w * p = sum_of (2 ^ w) q p small in
    let is : 2 ^ 32 - 1 - x ≡ (2 ^ w - 1 - q) * p + (p - 1 - r) = omega (arith, parts, whole, two, low) in
    ap (λ (y : ℕ). y / p) is ∙ div-mul-add (2 ^ w - 1 - q) p (p - 1 - r) (omega (arith, low))

by_sign : (b : Bool) (w q : ℕ) → nat_lt q (2 ^ (w - 1)) ≡ b → sign_extended w q ≡ (if b then q else q + (2 ^ 32 - 2 ^ w))
by_sign b w q e = ap (λ (t : Bool). if t then q else q + (2 ^ 32 - 2 ^ w)) e

-- a word shifted with its sign, by its top bits
signed_right : (w x : ℕ) → 1 ≤ w → w ≤ 32 → x < 2 ^ 32 → word_of (int_shr (signed_of x) (32 - w)) ≡ sign_extended w (x / 2 ^ (32 - w))
signed_right w x some le h =
    let c = 32 - w in
    let q = x / 2 ^ c in
    elim (cases_lt x (2 ^ 31)) [
      | inl l ↦
          (let few : q ≤ x = shr_le x c in
          let sum : (w - 1) + c ≡ 31 = omega (arith, some, le) in
          let low : q < 2 ^ (w - 1) = shr_below x (w - 1) c (subst (λ (k : ℕ). x < 2 ^ k) (sym sum) l) in
          ap (λ z. word_of (int_shr z c)) (signed_low x l) ∙ word_low q (omega (arith, few, h)) ∙ sym (by_sign true w q (lt-ltb q (2 ^ (w - 1)) low)))
      | inr l ↦
          (let y = 2 ^ 32 - 1 - x in
          let few : y / 2 ^ c ≤ y = shr_le y c in
          let sum : (w - 1) + c ≡ 31 = omega (arith, some, le) in
          let half : 2 ^ (w - 1) * 2 ^ c ≤ x = (let p = power (w - 1) c 31 sum in omega (arith, p, l)) in
          let high : 2 ^ (w - 1) ≤ q = le-div (2 ^ (w - 1)) x (2 ^ c) (pow_pos c) half in
          let all : w + c ≡ 32 = omega (arith, le) in
          let small : q < 2 ^ w = shr_below x w c (subst (λ (k : ℕ). x < 2 ^ k) (sym all) h) in
          let is = complement_shifted w x le h in
          let most : 2 ^ w ≤ 2 ^ 32 = pow_le w 32 le in
          let value : 2 ^ 32 - 1 - y / 2 ^ c ≡ q + (2 ^ 32 - 2 ^ w) = omega (arith, is, small, most) in
          ap (λ z. word_of (int_shr z c)) (signed_high x l h) ∙ word_high (y / 2 ^ c) (omega (arith, few)) ∙ value ∙ sym (by_sign false w q (not_before q (2 ^ (w - 1)) high)))
    ]

-- ---- a word lowered: its mask is full at the top

full_signed : (w : ℕ) → 1 ≤ w → w ≤ 32 → sign_extended w (2 ^ w - 1) ≡ 2 ^ 32 - 1
full_signed w some le =
    let two = twice w some in
    let most : 2 ^ w ≤ 2 ^ 32 = pow_le w 32 le in
    let p = pow_pos (w - 1) in
    by_sign false w (2 ^ w - 1) (not_before (2 ^ w - 1) (2 ^ (w - 1)) (omega (arith, two, p))) ∙ omega (arith, most, two, p)

lowered_mask : (signed : Bool) (w mask bits : ℕ) → 1 ≤ w → w ≤ 32 → mask < 2 ^ 32 → mask / 2 ^ (32 - w) ≡ 2 ^ w - 1 → (right_bits signed (32 - w) (record { known = mask; value = bits })).known ≡ 2 ^ 32 - 1
lowered_mask true w mask bits some le lt e = signed_right w mask some le lt ∙ ap (λ (x : ℕ). sign_extended w x) e ∙ full_signed w some le
lowered_mask false w mask bits some le lt e =
    let back : 32 - (32 - w) ≡ w = omega (arith, le) in
    let most : 2 ^ w ≤ 2 ^ 32 = pow_le w 32 le in
    let p = pow_pos w in
    ap (λ (x : ℕ). x + (2 ^ 32 - 2 ^ (32 - (32 - w)))) e ∙ ap (λ (k : ℕ). 2 ^ w - 1 + (2 ^ 32 - 2 ^ k)) back ∙ omega (arith, most, p)

lowered_value : (signed : Bool) (w mask bits : ℕ) → (right_bits signed (32 - w) (record { known = mask; value = bits })).value ≡ binary_word signed binary.ShiftRight bits (32 - w)
lowered_value true w mask bits = refl
lowered_value false w mask bits = refl

known_full : (mask bits : ℕ) → mask ≡ 2 ^ 32 - 1 → known_word mask bits ≡ Plain (Number bits)
known_full mask bits e = ap (λ (b : Bool). if b then Plain (Number bits) else Partly mask bits) (eq-eqb mask (2 ^ 32 - 1) e)

lowers_by : (t signed : Bool) (w mask bits : ℕ) → 1 ≤ w → w ≤ 32 → (mask == 2 ^ 32 - 1) ≡ t → (mask ≡ 2 ^ 32 - 1) ⊎ ((mask < 2 ^ 32) × (mask / 2 ^ (32 - w) ≡ 2 ^ w - 1)) → shifted signed binary.ShiftRight (right_bits signed) (if t then Plain (Number bits) else Partly mask bits) (Plain (Number (32 - w))) ≡ Some (Plain (Number (binary_word signed binary.ShiftRight bits (32 - w))))
lowers_by true signed w mask bits some le e h = ap (λ (b : Bool). if b then None else Some (Plain (Number (binary_word signed binary.ShiftRight bits (32 - w))))) (not_before 31 (32 - w) (omega (arith, some)))
lowers_by false signed w mask bits some le e (inl full) = absurd (let f = eq-eqb mask (2 ^ 32 - 1) full in let never : ⊥ = cc in never)
lowers_by false signed w mask bits some le e (inr h) =
    let after = right_bits signed (32 - w) (record { known = mask; value = bits }) in
    ap (λ (b : Bool). if b then None else Some (known_word after.known after.value)) (not_before 31 (32 - w) (omega (arith, some)))
    ∙ ap (λ (x : Word). Some x) (known_full after.known after.value (lowered_mask signed w mask bits some le h.0 h.1))
    ∙ ap (λ (x : ℕ). Some (Plain (Number x))) (lowered_value signed w mask bits)

pub lowers : (signed : Bool) (w mask bits : ℕ) → 1 ≤ w → w ≤ 32 → (mask ≡ 2 ^ 32 - 1) ⊎ ((mask < 2 ^ 32) × (mask / 2 ^ (32 - w) ≡ 2 ^ w - 1)) → shifted signed binary.ShiftRight (right_bits signed) (known_word mask bits) (Plain (Number (32 - w))) ≡ Some (Plain (Number (binary_word signed binary.ShiftRight bits (32 - w))))
lowers signed w mask bits some le h = lowers_by (mask == 2 ^ 32 - 1) signed w mask bits some le refl h

-- ---- a word raised

-- what a raised word has: its mask is full, or at the top
pub record IsRaised (s w value known : ℕ) (unit : Word) : Type 0 where
  pub mask : ℕ
  pub bits : ℕ
  pub is : shifted true binary.ShiftLeft bits_left unit (Plain (Number (32 - (s + w)))) ≡ Some (known_word mask (bits * 2 ^ (32 - (s + w)) % 2 ^ 32))
  pub top : (mask ≡ 2 ^ 32 - 1) ⊎ ((mask < 2 ^ 32) × (mask / 2 ^ (32 - w) ≡ 2 ^ w - 1))
  pub same : bit_and bits known ≡ value

same_bits : (a b : KnownBits) → Some a ≡ Some b → a ≡ b
same_bits a b e = cc

-- the bits of a field among more
field_among : (s w known mask : ℕ) → bit_and known mask ≡ known → known / 2 ^ s % 2 ^ w ≡ 2 ^ w - 1 → mask / 2 ^ s % 2 ^ w ≡ 2 ^ w - 1
field_among s w known mask e full =
    let both : bit_and (known / 2 ^ s % 2 ^ w) (mask / 2 ^ s % 2 ^ w) ≡ known / 2 ^ s % 2 ^ w = sym (and_mod (known / 2 ^ s) (mask / 2 ^ s) w) ∙ ap (λ (x : ℕ). x % 2 ^ w) (sym (and_shr known mask s)) ∙ ap (λ (x : ℕ). x / 2 ^ s % 2 ^ w) e in
    let few = and_le_r (known / 2 ^ s % 2 ^ w) (mask / 2 ^ s % 2 ^ w) in
    let lt = low_below (mask / 2 ^ s) w in
    omega (arith, both, few, lt, full)

module _ (s w known value : ℕ) (some : 1 ≤ w) (le : s + w ≤ 32) (full : known / 2 ^ s % 2 ^ w ≡ 2 ^ w - 1) where
  abbrev up : ℕ
  up = 32 - (s + w)

  near : nat_lt 31 (32 - (s + w)) ≡ false
  near = not_before 31 (32 - (s + w)) (omega (arith, some))

  by_masks : (unit : Word) (a : KnownBits) → bit_and known a.known ≡ known → bit_and a.value known ≡ value → shifted true binary.ShiftLeft bits_left unit (Plain (Number (32 - (s + w)))) ≡ Some (known_word (bits_left (32 - (s + w)) a).known (a.value * 2 ^ (32 - (s + w)) % 2 ^ 32)) → IsRaised s w value known unit
  by_masks unit a all same is = record {
    mask = (bits_left (32 - (s + w)) a).known;
    bits = a.value;
    is = is;
    top = inr (mod_below (a.known * 2 ^ up + (2 ^ up - 1)) (2 ^ 32) (omega arith), top_bits s w a.known (2 ^ up - 1) le (let p = pow_pos up in omega (arith, p)) ∙ field_among s w known a.known all full);
    same = same;
  }

  pub raises : (unit : Word) → Covers known value unit → IsRaised s w value known unit
  raises (Plain (Number n)) c =
      let a = same_bits (record { known = 2 ^ 32 - 1; value = n }) c.bits c.are in
      record {
        mask = 2 ^ 32 - 1;
        bits = n;
        is = ap (λ (b : Bool). if b then None else Some (Plain (Number (n * 2 ^ up % 2 ^ 32)))) near;
        top = inl refl;
        same = ap (λ (b : KnownBits). bit_and b.value known) a ∙ c.same;
      }
  raises (Plain (Pointer object offset)) c =
      let a = same_bits (record { known = 0; value = 0 }) c.bits c.are in
      by_masks (Plain (Pointer object offset)) (record { known = 0; value = 0 }) (ap (λ (b : KnownBits). bit_and known b.known) a ∙ c.all) (ap (λ (b : KnownBits). bit_and b.value known) a ∙ c.same)
      (ap (λ (b : Bool). if b then None else Some (known_word (bits_left up (record { known = 0; value = 0 })).known (0 * 2 ^ up % 2 ^ 32))) near)
  raises (Plain (Function f)) c =
      let a = same_bits (record { known = 0; value = 0 }) c.bits c.are in
      by_masks (Plain (Function f)) (record { known = 0; value = 0 }) (ap (λ (b : KnownBits). bit_and known b.known) a ∙ c.all) (ap (λ (b : KnownBits). bit_and b.value known) a ∙ c.same)
      (ap (λ (b : Bool). if b then None else Some (known_word (bits_left up (record { known = 0; value = 0 })).known (0 * 2 ^ up % 2 ^ 32))) near)
  raises (Label f l) c = absurd (let e = c.are in let never : ⊥ = cc in never)
  raises (Partly mask bits) c =
      let a = same_bits (record { known = mask; value = bits }) c.bits c.are in
      by_masks (Partly mask bits) (record { known = mask; value = bits }) (ap (λ (b : KnownBits). bit_and known b.known) a ∙ c.all) (ap (λ (b : KnownBits). bit_and b.value known) a ∙ c.same)
      (ap (λ (b : Bool). if b then None else Some (known_word (bits_left up (record { known = mask; value = bits })).known (bits * 2 ^ up % 2 ^ 32))) near)

  -- the field's bits, of what was read
  same_field : (bits : ℕ) → bit_and bits known ≡ value → bits / 2 ^ s % 2 ^ w ≡ value / 2 ^ s % 2 ^ w
  same_field bits e =
      let q = bits / 2 ^ s % 2 ^ w in
      let lt = low_below (bits / 2 ^ s) w in
      sym (ap (λ (x : ℕ). x / 2 ^ s % 2 ^ w) (sym e) ∙ ap (λ (x : ℕ). x % 2 ^ w) (and_shr bits known s) ∙ and_mod (bits / 2 ^ s) (known / 2 ^ s) w ∙ ap (λ (x : ℕ). bit_and q x) full ∙ and_mask q w ∙ mod-eq_of_lt lt)

  raised_top : (bits : ℕ) → bits * 2 ^ (32 - (s + w)) % 2 ^ 32 / 2 ^ (32 - w) ≡ bits / 2 ^ s % 2 ^ w
  raised_top bits = (let e : bits * 2 ^ up ≡ bits * 2 ^ up + 0 = omega arith in ap (λ (x : ℕ). x % 2 ^ 32 / 2 ^ (32 - w)) e) ∙ top_bits s w bits 0 le (pow_pos up)

  -- the number that comes of it
  pub lowered_number : (signed : Bool) (bits : ℕ) → bit_and bits known ≡ value → binary_word signed binary.ShiftRight (bits * 2 ^ (32 - (s + w)) % 2 ^ 32) (32 - w) ≡ extended signed w (bits_from s w value)
  lowered_number true bits e =
      let q = value / 2 ^ s % 2 ^ w in
      let lt = low_below (value / 2 ^ s) w in
      signed_right w (bits * 2 ^ up % 2 ^ 32) some (omega (arith, le)) (mod_below (bits * 2 ^ up) (2 ^ 32) (omega arith))
      ∙ ap (λ (x : ℕ). sign_extended w x) (raised_top bits ∙ same_field bits e ∙ sym (mod-eq_of_lt lt))
  lowered_number false bits e =
      let lt = low_below (value / 2 ^ s) w in
      raised_top bits ∙ same_field bits e ∙ sym (mod-eq_of_lt lt)
