-- A bit-field that is read: C knows its bits, and none of them is a pointer's or function's.
use Rattle.std.specs.Prelude.{◌≡◌, ◌≤◌, ◌<◌, ℕ, ◌+◌, ◌-◌, ◌*◌, ◌/◌, ◌%◌, ◌^◌, ◌==◌, not, bit_and, bit_or, Bool, true, false, Option, Some, Ok, List, [], ◌∷◌, length, map as mapped}
use Rattle.std.specs.Int.Bits.{and_zero_l, and_zero_r}
use Rattle.std.proofs.Common.{refl, sym, ap, ◌∙◌, arith}
use Rattle.std.proofs.lemmas.Bool.{eqb-true}
use Rattle.std.proofs.lemmas.Nat.{or_shr, or_mod, or_disjoint}
use Rattle.lcc_base.specs.declared.order.Order.{Order}
use Rattle.lcc_base.specs.declared.order.Order.TheVariants.{Big, Little}
use Rattle.lcc_base.specs.declared.cause.Cause.TheVariants.{Unknown, PointerBytes}
use Rattle.lcc_base.specs.NumberIn.{number_of, number_in}
use Rattle.objects.specs.declared.byte.Byte.{Byte}
use Rattle.objects.specs.declared.byte.Byte.TheVariants.{Bits, Part}
use Rattle.objects.specs.declared.field.Field.{Field}
use Rattle.objects.specs.declared.operators.Binary.TheVariants as binary
use Rattle.objects.specs.declared.value.Value.{Value}
use Rattle.objects.specs.declared.value.Value.TheVariants.{Number}
use Rattle.objects.proofs.lemmas.AccessLaws.{first_not, first_rest, unless_none, unless_same}
use Rattle.objects.specs.Accesses.{read_cause, field_read}
use Rattle.objects.specs.Accesses as c
use Rattle.objects.specs.Arithmetic.{binary_word}
use Rattle.objects.specs.Bytes.{known_of, value_of, settled_of, part_bits_of, number_of_bytes}
use Rattle.objects.specs.Causes.{bits_from, is_unknown_field, is_in_part}
use Rattle.objects.specs.Conversions.{extended}
use Rattle.objects.specs.Fields.{shift_of, field_cause, field_in}
use Rattle.objects.specs.Objects.{Object as Old}
use Rattle.forests.specs.Bits.{shifted}
use Rattle.forests.specs.Objects.{Object, bytes_through}
use Rattle.forests.specs.Sound.{AreSoundBytes, AreSoundObjects}
use Rattle.forests.proofs.lemmas.SoundBytes.{bytes_through_sound}
use Rattle.forests.specs.WordBytes.{word_in}
use Rattle.forests.specs.Words.{Word, Plain, known_word}
use Rattle.c_match.specs.Ranges.{Map}
use Rattle.c_match.specs.Values.{IsValue}
use Rattle.c_match.specs.Bytes.{AreBytesOf}
use Rattle.c_match.specs.Held.{AreHeld}
use Rattle.c_match_fields.specs.FieldReads.{right_bits, above_of, IsFieldRead}
use Rattle.c_match_fields.proofs.lemmas.RaisedBits.{raises, lowers, lowered_number}
use Rattle.c_match_objects.proofs.lemmas.Reached.{there, access, bytes_reached, length_reached}
use Rattle.c_match_objects.proofs.lemmas.Reads.{if_none_none, if_none_same, word_there}
use Rattle.c_match_fields.proofs.lemmas.UnitWords.{byte_covers, small_byte, and_four, less, unit_word}

-- ---- one byte: its bits are known, or a pointer's, or neither

settled_sum : (b : Byte Value) → settled_of b ≡ known_of b + part_bits_of b
settled_sum (Bits known value) = omega arith
settled_sum (Part v place) = refl

none_common : (b : Byte Value) → bit_and (known_of b) (part_bits_of b) ≡ 0
none_common (Bits known value) = and_zero_r known
none_common (Part v place) = and_zero_l 255

part_small : (b : Byte Value) → part_bits_of b < 256
part_small (Bits known value) = omega arith
part_small (Part v place) = omega arith

-- ---- four bytes

zeros_are : (a b c d : ℕ) → a ≡ 0 → b ≡ 0 → c ≡ 0 → d ≡ 0 → number_of (a ∷ b ∷ c ∷ d ∷ []) ≡ 0
zeros_are a b c d p q r s = omega (arith, p, q, r, s)

or_nothing : (n : ℕ) → bit_or n 0 ≡ n
or_nothing n = or_disjoint n 0 (and_zero_r n) ∙ (let e : n + 0 ≡ n = omega arith in e)

field_ones : (s w : ℕ) (a b c d : Byte Value) → known_of b < 256 → known_of c < 256 → known_of d < 256 → bits_from s w (number_of (settled_of a ∷ settled_of b ∷ settled_of c ∷ settled_of d ∷ [])) ≡ 2 ^ w - 1 → bits_from s w (number_of (part_bits_of a ∷ part_bits_of b ∷ part_bits_of c ∷ part_bits_of d ∷ [])) ≡ 0 → bits_from s w (number_of (known_of a ∷ known_of b ∷ known_of c ∷ known_of d ∷ [])) ≡ 2 ^ w - 1
field_ones s w a b c d lb lc ld full none =
    let k = number_of (known_of a ∷ known_of b ∷ known_of c ∷ known_of d ∷ []) in
    let p = number_of (part_bits_of a ∷ part_bits_of b ∷ part_bits_of c ∷ part_bits_of d ∷ []) in
    let sa = settled_sum a in
    let sb = settled_sum b in
    let sc = settled_sum c in
    let sd = settled_sum d in
    let sum : number_of (settled_of a ∷ settled_of b ∷ settled_of c ∷ settled_of d ∷ []) ≡ k + p = omega (arith, sa, sb, sc, sd) in
    let apart : bit_and k p ≡ 0 =
    and_four (known_of a) (known_of b) (known_of c) (known_of d) (part_bits_of a) (part_bits_of b) (part_bits_of c) (part_bits_of d) lb lc ld (part_small b) (part_small c) (part_small d)
    ∙ zeros_are (bit_and (known_of a) (part_bits_of a)) (bit_and (known_of b) (part_bits_of b)) (bit_and (known_of c) (part_bits_of c)) (bit_and (known_of d) (part_bits_of d)) (none_common a) (none_common b) (none_common c) (none_common d) in
    let whole : number_of (settled_of a ∷ settled_of b ∷ settled_of c ∷ settled_of d ∷ []) ≡ bit_or k p = sum ∙ sym (or_disjoint k p apart) in
    let parted : bits_from s w (bit_or k p) ≡ bit_or (bits_from s w k) (bits_from s w p) = ap (λ (x : ℕ). x % 2 ^ w) (or_shr k p s) ∙ or_mod (k / 2 ^ s) (p / 2 ^ s) w in
    sym (or_nothing (bits_from s w k)) ∙ sym (ap (λ (x : ℕ). bits_from s w x) whole ∙ parted ∙ ap (λ (x : ℕ). bit_or (bits_from s w k) x) none) ∙ full

unit_ones : (map : Map) (order : Order) (s w : ℕ) (bs : List (Byte Value)) (cs : List (Byte Word)) → AreBytesOf map bs cs → AreSoundBytes cs → length bs ≡ 4 → bits_from s w (number_in order (mapped settled_of bs)) ≡ 2 ^ w - 1 → bits_from s w (number_in order (mapped part_bits_of bs)) ≡ 0 → bits_from s w (number_in order (mapped known_of bs)) ≡ 2 ^ w - 1
unit_ones map order s w [] cs h k l full none = absurd (let never : ⊥ = omega (arith, l) in never)
unit_ones map order s w (a ∷ []) cs h k l full none = absurd (let never : ⊥ = omega (arith, l) in never)
unit_ones map order s w (a ∷ b ∷ []) cs h k l full none = absurd (let never : ⊥ = omega (arith, l) in never)
unit_ones map order s w (a ∷ b ∷ c ∷ []) cs h k l full none = absurd (let never : ⊥ = omega (arith, l) in never)
unit_ones map order s w (a ∷ b ∷ c ∷ d ∷ x ∷ bs) cs h k l full none = absurd (let never : ⊥ = omega (arith, l) in never)
unit_ones map order s w (a ∷ b ∷ c ∷ d ∷ []) [] h k l full none = absurd h
unit_ones map order s w (a ∷ b ∷ c ∷ d ∷ []) (e ∷ []) h k l full none = absurd h.1
unit_ones map order s w (a ∷ b ∷ c ∷ d ∷ []) (e ∷ f ∷ []) h k l full none = absurd h.1.1
unit_ones map order s w (a ∷ b ∷ c ∷ d ∷ []) (e ∷ f ∷ g ∷ []) h k l full none = absurd h.1.1.1
unit_ones map Big s w (a ∷ b ∷ c ∷ d ∷ []) (e ∷ f ∷ g ∷ i ∷ cs) h k l full none = field_ones s w a b c d (less b f (byte_covers map b f h.1.0) (small_byte f k.1.0)) (less c g (byte_covers map c g h.1.1.0) (small_byte g k.1.1.0)) (less d i (byte_covers map d i h.1.1.1.0) (small_byte i k.1.1.1.0)) full none
unit_ones map Little s w (a ∷ b ∷ c ∷ d ∷ []) (e ∷ f ∷ g ∷ i ∷ cs) h k l full none = field_ones s w d c b a (less c g (byte_covers map c g h.1.1.0) (small_byte g k.1.1.0)) (less b f (byte_covers map b f h.1.0) (small_byte f k.1.0)) (less a e (byte_covers map a e h.0) (small_byte e k.0)) full none

-- ---- the read

not_false : (b : Bool) → not b ≡ false → b ≡ true
not_false true e = refl
not_false false e = absurd (let never : ⊥ = cc in never)

in_unit : (order : Order) (f : Field) → f.first + f.width ≤ 32 → shift_of order f + f.width ≤ 32
in_unit Big f h = omega arith
in_unit Little f h = h

as_number : (o : Option Word) (m n : ℕ) (v : Value) → o ≡ Some (Plain (Number m)) → m ≡ n → Number n ≡ v → o ≡ Some (Plain v)
as_number o m n v e f g =
    let second : Some (Plain (Number m)) ≡ Some (Plain (Number n)) = ap (λ (x : ℕ). Some (Plain (Number x))) f in
    let third : Some (Plain (Number n)) ≡ Some (Plain v) = ap (λ (x : Value). Some (Plain x)) g in
    e ∙ second ∙ third

pub field_reads : (map : Map) (old : List Old) (objects : List Object) (order : Order) (f : Field) (p v : Value) (w : Word) → AreHeld map old objects → AreSoundObjects objects → IsValue map p w → 1 ≤ f.width → f.first + f.width ≤ 32 → field_read order f old p ≡ Ok v → IsFieldRead objects order f v w
field_reads map old objects order f p v w h sound is some within e =
    let bs = c.bytes_through old p 4 in
    let none = if_none_none (read_cause old p 4 4) (field_in order f bs) v e in
    let it = if_none_same (read_cause old p 4 4) (field_in order f bs) v e in
    let shift = shift_of order f in
    let number = Number (extended f.signed f.width (bits_from shift f.width (number_of_bytes order bs))) in
    let cause = unless_none (field_cause order f bs) number v it in
    let is_number = unless_same (field_cause order f bs) number v it in
    let unknown = first_not (is_unknown_field order shift f.width bs) Unknown ((is_in_part order shift f.width bs, PointerBytes) ∷ []) cause in
    let part = first_not (is_in_part order shift f.width bs) PointerBytes [] (first_rest (is_unknown_field order shift f.width bs) Unknown ((is_in_part order shift f.width bs, PointerBytes) ∷ []) cause) in
    let settled = bits_from shift f.width (number_in order (mapped settled_of bs)) in
    let parts = bits_from shift f.width (number_in order (mapped part_bits_of bs)) in
    let full : settled ≡ 2 ^ f.width - 1 = eqb-true settled (2 ^ f.width - 1) (not_false (settled == 2 ^ f.width - 1) unknown) in
    let free : parts ≡ 0 = eqb-true parts 0 (not_false (parts == 0) part) in
    let a = access map old objects p w 4 4 h is none in
    let cs = bytes_through objects (there a.reached) 4 in
    let long = length_reached map old objects p w 4 4 a in
    let are = bytes_reached map old objects p w 4 a.reached in
    let sound_bytes = bytes_through_sound objects (there a.reached) 4 sound in
    let known = number_in order (mapped known_of bs) in
    let value = number_in order (mapped value_of bs) in
    let fit = in_unit order f within in
    let ones = unit_ones map order shift f.width bs cs are sound_bytes long.0 full free in
    let raised = raises shift f.width known value some fit ones (word_in order cs) (unit_word map order bs cs are sound_bytes long.0 long.1) in
    let up = 2 ^ above_of order f in
    let narrow : f.width ≤ 32 = omega (arith, fit) in
    let word = known_word raised.mask (raised.bits * up % 2 ^ 32) in
    let lowered = shifted f.signed binary.ShiftRight (right_bits f.signed) word (Plain (Number (32 - f.width))) in
    let from = binary_word f.signed binary.ShiftRight (raised.bits * up % 2 ^ 32) (32 - f.width) in
    let to = extended f.signed f.width (bits_from shift f.width (number_of_bytes order bs)) in
    record {
      unit = word_in order cs;
      raised = known_word raised.mask (raised.bits * up % 2 ^ 32);
      reads = word_there map old objects order p w a;
      raises = raised.is;
      lowers =
          as_number lowered from to v (lowers f.signed f.width raised.mask (raised.bits * up % 2 ^ 32) some narrow raised.top)
          (lowered_number shift f.width known value some fit ones f.signed raised.bits raised.same) is_number;
    }
