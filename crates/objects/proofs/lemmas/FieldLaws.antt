-- A bit-field that was written is read back as the number of its width, whatever its unit held.
use Rattle.std.specs.Prelude.{◌≡◌, ◌≤◌, ◌<◌, ℕ, ◌+◌, ◌-◌, ◌/◌, ◌%◌, ◌^◌, ◌==◌, not, Bool, List, [], ◌∷◌, map, None, Ok, if◌then◌else◌}
use Rattle.std.proofs.Common.{refl, ap, ◌∙◌, arith}
use Rattle.std.proofs.Math.Nat.{mod-eq_of_lt}
use Rattle.std.proofs.lemmas.Bool.{eq-eqb}
use Rattle.std.proofs.lemmas.Nat.{pow_pos, shr_le}
use Rattle.lcc_base.specs.declared.order.Order.{Order}
use Rattle.lcc_base.specs.declared.order.Order.TheVariants.{Big, Little}
use Rattle.lcc_base.specs.declared.cause.Cause.TheVariants.{Unknown, PointerBytes}
use Rattle.lcc_base.specs.NumberIn.{number_in}
use Rattle.objects.specs.declared.byte.Byte.{Byte}
use Rattle.objects.specs.declared.field.Field.{Field}
use Rattle.objects.specs.declared.value.Value.{Value}
use Rattle.objects.specs.declared.value.Value.TheVariants.{Number}
use Rattle.objects.specs.Bytes.{settled_of, part_bits_of, known_of, value_of, number_bytes, number_of_bytes}
use Rattle.objects.specs.Causes.{first_cause, unless, bits_from}
use Rattle.objects.specs.Conversions.{sign_extended, extended}
use Rattle.objects.specs.Fields.{shift_of, bits_of, with_bits, with_field, field_cause, field_in}
use Rattle.objects.proofs.lemmas.NumberLaws.{number_of_four}
use Rattle.objects.proofs.lemmas.BitLaws.{replaced_below, bits_replaced, low_below}

-- the masks and values of bytes that are made of them
masks_of : (order : Order) (k v : ℕ) → number_in order (map settled_of (bits_of (number_bytes order 4 k) (number_bytes order 4 v))) ≡ k % 2 ^ 32
masks_of Big k v = number_of_four Big k
masks_of Little k v = number_of_four Little k

values_of : (order : Order) (k v : ℕ) → number_in order (map value_of (bits_of (number_bytes order 4 k) (number_bytes order 4 v))) ≡ v % 2 ^ 32
values_of Big k v = number_of_four Big v
values_of Little k v = number_of_four Little v

no_parts : (order : Order) (k v : ℕ) → number_in order (map part_bits_of (bits_of (number_bytes order 4 k) (number_bytes order 4 v))) ≡ 0
no_parts Big k v = refl
no_parts Little k v = refl

no_bits : (s w : ℕ) → bits_from s w 0 ≡ 0
no_bits s w = let none : 0 / 2 ^ s ≡ 0 = omega (arith, shr_le 0 s) in ap (λ x. x % 2 ^ w) none ∙ mod-eq_of_lt (pow_pos w)

-- a field of a unit that was made so is known
known_field : (s w m n : ℕ) (is_known : bits_from s w m ≡ 2 ^ w - 1) (has_none : bits_from s w n ≡ 0) → first_cause ((not (bits_from s w m == 2 ^ w - 1), Unknown) ∷ (not (bits_from s w n == 0), PointerBytes) ∷ []) ≡ None
known_field s w m n is_known has_none =
    ap (λ b. first_cause ((not b, Unknown) ∷ (not (bits_from s w n == 0), PointerBytes) ∷ [])) (eq-eqb (bits_from s w m) (2 ^ w - 1) is_known)
    ∙ ap (λ b. first_cause ((not b, PointerBytes) ∷ [])) (eq-eqb (bits_from s w n) 0 has_none)

in_range : (s w new n : ℕ) → s + w ≤ 32 → n < 2 ^ 32 → with_bits s w new n % 2 ^ 32 ≡ with_bits s w new n
in_range s w new n le h = mod-eq_of_lt (replaced_below s w new n le h)

-- the bits that were written, of the number that the unit's bytes are
bits_back : (s w new n m : ℕ) → s + w ≤ 32 → n < 2 ^ 32 → m ≡ with_bits s w new n % 2 ^ 32 → bits_from s w m ≡ new % 2 ^ w
bits_back s w new n m le h e = ap (λ x. bits_from s w x) (e ∙ in_range s w new n le h) ∙ bits_replaced s w new n

full_low : (w : ℕ) → (2 ^ w - 1) % 2 ^ w ≡ 2 ^ w - 1
full_low w = let above : 0 < 2 ^ w = pow_pos w in let below : 2 ^ w - 1 < 2 ^ w = omega arith in mod-eq_of_lt below

low_extended : (signed : Bool) (w n m : ℕ) → m ≡ n % 2 ^ w → extended signed w m ≡ extended signed w n
low_extended signed w n m e = ap (λ (x : ℕ). if signed then sign_extended w x else x) (ap (λ x. x % 2 ^ w) e ∙ mod-eq_of_lt (low_below n w))

-- the shift and the width stay in the unit
inside : (order : Order) (f : Field) → f.first + f.width ≤ 32 → shift_of order f + f.width ≤ 32
inside Big f h = omega arith
inside Little f h = h

pub field_back : (order : Order) (f : Field) (n : ℕ) (unit : List (Byte Value)) → f.first + f.width ≤ 32 → number_in order (map known_of unit) < 2 ^ 32 → number_in order (map value_of unit) < 2 ^ 32 → field_in order f (with_field order f n unit) ≡ Ok (Number (extended f.signed f.width n))
field_back order f n unit le known values =
    let s = shift_of order f in
    let w = f.width in
    let k = with_bits s w (2 ^ w - 1) (number_in order (map known_of unit)) in
    let v = with_bits s w n (number_in order (map value_of unit)) in
    let made = bits_of (number_bytes order 4 k) (number_bytes order 4 v) in
    let fit = inside order f le in
    let settled : bits_from s w (number_in order (map settled_of made)) ≡ 2 ^ w - 1 = bits_back s w (2 ^ w - 1) (number_in order (map known_of unit)) (number_in order (map settled_of made)) fit known (masks_of order k v) ∙ full_low w in
    let none : bits_from s w (number_in order (map part_bits_of made)) ≡ 0 = ap (λ x. bits_from s w x) (no_parts order k v) ∙ no_bits s w in
    let cause : field_cause order f made ≡ None = known_field s w (number_in order (map settled_of made)) (number_in order (map part_bits_of made)) settled none in
    let number : bits_from s w (number_of_bytes order made) ≡ n % 2 ^ w = bits_back s w n (number_in order (map value_of unit)) (number_of_bytes order made) fit values (values_of order k v) in
    ap (λ c. unless c (Number (extended f.signed w (bits_from s w (number_of_bytes order made))))) cause
    ∙ ap (λ (x : ℕ). Ok (Number x)) (low_extended f.signed w n (bits_from s w (number_of_bytes order made)) number)
