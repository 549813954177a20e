-- Bit-fields read and written at places.
use Rattle.std.specs.Prelude.{◌≡◌, ◌≤◌, ◌<◌, ℕ, ◌+◌, ◌-◌, ◌*◌, ◌/◌, ◌%◌, ◌^◌, nat_lt, bit_and, Bool, true, false, Some, None, Ok, List, [], ◌∷◌, if◌then◌else◌}
use Rattle.std.proofs.Common.{refl, sym, ap, subst, inl, inr, ◌∙◌, arith}
use Rattle.std.proofs.Math.Nat.{mod-eq_of_lt}
use Rattle.std.proofs.lemmas.Bool.{cases_lt}
use Rattle.std.proofs.lemmas.Nat.{pow_pos, pow-add, pow_below, shl-shr, shl_whole, mod_low, mod-pow-add, and_mask}
use Rattle.lcc_base.specs.declared.order.Order.{Order}
use Rattle.lcc_base.specs.declared.order.Order.TheVariants.{Big, Little}
use Rattle.lcc_base.specs.declared.cause.Cause.TheVariants.{PointerNumber}
use Rattle.objects.specs.declared.field.Field.{Field}
use Rattle.objects.specs.declared.operators.Binary.TheVariants as binary
use Rattle.objects.specs.declared.purpose.Purpose.{Purpose}
use Rattle.objects.specs.declared.value.Value.{Value}
use Rattle.objects.specs.declared.value.Value.TheVariants.{Number}
use Rattle.objects.proofs.lemmas.AccessLaws.{first_not, unless_same}
use Rattle.objects.specs.Accesses.{read_cause, write_cause, field_read, field_written, number_or_zero}
use Rattle.objects.specs.Accesses as c
use Rattle.objects.specs.Arithmetic.{binary_word}
use Rattle.objects.proofs.lemmas.BitLaws.{low_below}
use Rattle.objects.specs.Bytes.{number_of_bytes}
use Rattle.objects.specs.Causes.{first_cause, unless, bits_from, is_no_number}
use Rattle.objects.specs.Conversions.{extended}
use Rattle.objects.specs.Fields.{shift_of, field_cause, field_in, with_field}
use Rattle.objects.specs.Objects.{Object as Old}
use Rattle.forests.specs.Actions.{gave, changed}
use Rattle.forests.specs.Bits.{bits_and, bits_left, bitwise, shifted}
use Rattle.forests.specs.Words.{Word, Plain}
use Rattle.c_match.specs.Values.{IsValue}
use Rattle.c_match.specs.Held.{IsOpenTo}
use Rattle.c_match_objects.proofs.lemmas.Reads.{if_none_none, if_none_same}
use Rattle.c_match_fields.specs.FieldReads.{right_bits, above_of}
use Rattle.c_match_fields.specs.Fields.{other_bits, placed}
use Rattle.c_match_fields.proofs.lemmas.FieldStores.{field_stored as unit_is_stored}
use Rattle.c_match_fields.proofs.lemmas.KnownFields.{field_reads}
use Rattle.c_match_fields.proofs.lemmas.RaisedBits.{lowered_number}
use Rattle.c_rows_agree.specs.Templates.{Template, Scene, Gives}
use Rattle.c_rows_agree.specs.Typed.{Typed, Holds}
use Rattle.c_rows_agree.specs.Places.{HoldsObjects, IsStored, raised, lowered_by, unit_at, unit_stored, field_loaded, at_top, masked, field_value_by, field_value, field_bits, field_stored}
use Rattle.c_rows_agree.proofs.lemmas.Conversions.{number_of_value, word_of_number, low_extended}
use Rattle.c_rows_agree.proofs.lemmas.Suffixes.{i_gives, u_gives, p_gives, i_constant, u_constant}

-- ---- numbers

near : (c : ℕ) → c ≤ 31 → nat_lt 31 c ≡ false
near c h = grind (arith, h)

pow_le : (i j : ℕ) → i ≤ j → 2 ^ i ≤ 2 ^ j
pow_le i j h = elim (cases_lt i j) [
  | inl lt ↦ (let p = pow_below i j lt in omega (arith, p))
  | inr ge ↦ (let e : i ≡ j = omega (arith, ge, h) in let f : 2 ^ i ≡ 2 ^ j = ap (λ (k : ℕ). 2 ^ k) e in omega (arith, f))
]

-- a number's low bits, at the top of a word
top_is : (n w : ℕ) → w ≤ 32 → n * 2 ^ (32 - w) % 2 ^ 32 ≡ n % 2 ^ w * 2 ^ (32 - w)
top_is n w h =
    let up = 32 - w in
    let sum : 32 ≡ w + up = omega (arith, h) in
    let none : n * 2 ^ up % 2 ^ up ≡ 0 = (let e : n * 2 ^ up ≡ n * 2 ^ up + 0 = omega arith in ap (λ (x : ℕ). x % 2 ^ up) e ∙ mod_low n up 0 (pow_pos up)) in
    ap (λ (j : ℕ). n * 2 ^ up % 2 ^ j) sum
    ∙ mod-pow-add (n * 2 ^ up) w up
    ∙ ap (λ (x : ℕ). x % 2 ^ w * 2 ^ up + n * 2 ^ up % 2 ^ up) (shl-shr n up)
    ∙ ap (λ (x : ℕ). n % 2 ^ w * 2 ^ up + x) none
    ∙ (let e : n % 2 ^ w * 2 ^ up + 0 ≡ n % 2 ^ w * 2 ^ up = omega arith in e)

-- and moved down to a place
top_moved : (n s w : ℕ) → s + w ≤ 32 → n * 2 ^ (32 - w) % 2 ^ 32 / 2 ^ (32 - w - s) ≡ n % 2 ^ w * 2 ^ s
top_moved n s w h =
    let down = 32 - w - s in
    let sum : 32 - w ≡ s + down = omega (arith, h) in
    let q = n % 2 ^ w in
    let parts : q * 2 ^ (32 - w) ≡ q * 2 ^ s * 2 ^ down = ap (λ (j : ℕ). q * 2 ^ j) sum ∙ ap (λ (x : ℕ). q * x) (pow-add 2 s down) ∙ (let e : q * (2 ^ s * 2 ^ down) ≡ q * 2 ^ s * 2 ^ down = grind arith in e) in
    ap (λ (x : ℕ). x / 2 ^ down) (top_is n w (omega (arith, h)) ∙ parts) ∙ shl-shr (q * 2 ^ s) down

-- moved up from the bottom
bottom_moved : (n s w : ℕ) → s + w ≤ 32 → bit_and n (2 ^ w - 1) * 2 ^ s % 2 ^ 32 ≡ n % 2 ^ w * 2 ^ s
bottom_moved n s w h = ap (λ (x : ℕ). x * 2 ^ s % 2 ^ 32) (and_mask n w) ∙ shl_whole (n % 2 ^ w) w s 32 (low_below n w) (omega (arith, h))

pub ones_small : (w : ℕ) → w ≤ 32 → 2 ^ w - 1 < 2 ^ 32
ones_small w h = let p = pow_le w 32 h in let q = pow_pos w in omega (arith, p, q)

full : (w : ℕ) → (2 ^ w - 1) / 2 ^ 0 % 2 ^ w ≡ 2 ^ w - 1
full w =
    let e : (2 ^ w - 1) / 2 ^ 0 ≡ 2 ^ w - 1 = omega arith in
    let p = pow_pos w in
    ap (λ (x : ℕ). x % 2 ^ w) e ∙ mod-eq_of_lt (let lt : 2 ^ w - 1 < 2 ^ w = omega (arith, p) in lt)

low_again : (signed : Bool) (w n : ℕ) → extended signed w (bits_from 0 w (n % 2 ^ w)) ≡ extended signed w n
low_again signed w n =
    let e : n % 2 ^ w / 2 ^ 0 ≡ n % 2 ^ w = omega arith in
    let low = low_below n w in
    let same : bits_from 0 w (n % 2 ^ w) ≡ n % 2 ^ w = ap (λ (x : ℕ). x % 2 ^ w) e ∙ mod-eq_of_lt low in
    ap (λ (x : ℕ). extended signed w x) same ∙ low_extended signed w n

-- raised from the bottom and lowered, with their sign or without
lowered_bits : (signed : Bool) (n w : ℕ) → 1 ≤ w → w ≤ 32 → binary_word signed binary.ShiftRight (n * 2 ^ (32 - w) % 2 ^ 32) (32 - w) ≡ extended signed w n
lowered_bits signed n w some le =
    let e : w ≡ 0 + w = omega arith in
    let within : 0 + w ≤ 32 = omega (arith, le) in
    ap (λ (j : ℕ). binary_word signed binary.ShiftRight (n * 2 ^ (32 - j) % 2 ^ 32) (32 - w)) e
    ∙ lowered_number 0 w (2 ^ w - 1) (n % 2 ^ w) some within (full w) signed n (and_mask n w)
    ∙ low_again signed w n

-- ---- reads

-- a unit's bits raised and lowered
lowered_gives : (k : Scene) (signed : Bool) (f : Field) (t : Template) (w : Word) (v : Value) → 1 ≤ f.width → Gives k t w → shifted signed binary.ShiftRight (right_bits signed) w (Plain (Number (32 - f.width))) ≡ Some (Plain v) → Gives k (lowered_by signed f t).tree (Plain v)
lowered_gives k true f t w v some h e = (w, Plain (Number (32 - f.width)), h, i_constant k (32 - f.width) (omega arith), ap gave e)
lowered_gives k false f t w v some h e = (w, Plain (Number (32 - f.width)), (w, h, refl), i_constant k (32 - f.width) (omega arith), ap gave e)

pub field_read_holds : (k : Scene) (old : List Old) (f : Field) (a : Typed) (p v : Value) → HoldsObjects k old → 1 ≤ f.width → f.first + f.width ≤ 32 → Holds k a p → field_read k.environment.order f old p ≡ Ok v → Holds k (field_loaded k.environment.order f a) v
field_read_holds k old f a p v os some within h e =
    let order = k.environment.order in
    let bs = c.bytes_through old p 4 in
    let it = if_none_same (read_cause old p 4 4) (field_in order f bs) v e in
    let n = extended f.signed f.width (bits_from (shift_of order f) f.width (number_of_bytes order bs)) in
    let is_v : Number n ≡ v = unless_same (field_cause order f bs) (Number n) v it in
    let r = field_reads k.map old k.objects order f p v h.word os.held os.sound h.is some within e in
    let up = above_of order f in
    let unit : Gives k (unit_at a) r.unit = (h.word, p_gives k a.suffix a.tree h.word h.gives, ap gave r.reads) in
    let top : Gives k (raised order f (unit_at a)) r.raised = (r.unit, Plain (Number up), unit, i_constant k up (omega arith), ap gave r.raises) in
    record {
      word = Plain v;
      gives = lowered_gives k f.signed f (raised order f (unit_at a)) r.raised v some top r.lowers;
      is = subst (λ (z : Value). IsValue k.map z (Plain z)) is_v refl;
    }

-- ---- a value's bits

shifts : (far : Bool) (w : Word) → far ≡ false → (if far then None else Some w) ≡ Some w
shifts true w e = absurd (let never : ⊥ = cc in never)
shifts false w e = refl

top_gives : (k : Scene) (f : Field) (b : Typed) (n : ℕ) (w : Word) → 1 ≤ f.width → Gives k b.tree w → w ≡ Plain (Number n) → Gives k (at_top f b) (Plain (Number (n * 2 ^ (32 - f.width) % 2 ^ 32)))
top_gives k f b n w some h e =
    let up = 32 - f.width in (
      w,
      Plain (Number up),
      i_gives k b.suffix b.tree w h,
      i_constant k up (omega arith),
      ap (λ (x : Word). gave (shifted true binary.ShiftLeft bits_left x (Plain (Number up)))) e ∙ ap gave (shifts (nat_lt 31 up) (Plain (Number (n * 2 ^ up % 2 ^ 32))) (near up (omega (arith, some)))),
    )

masked_gives : (k : Scene) (f : Field) (b : Typed) (n : ℕ) (w : Word) → f.width ≤ 32 → Gives k b.tree w → w ≡ Plain (Number n) → Gives k (masked f b) (Plain (Number (bit_and n (2 ^ f.width - 1))))
masked_gives k f b n w le h e = (
  w,
  Plain (Number (2 ^ f.width - 1)),
  u_gives k b.suffix b.tree w h,
  u_constant k (2 ^ f.width - 1) (ones_small f.width le),
  ap (λ (x : Word). gave (bitwise binary.And bits_and x (Plain (Number (2 ^ f.width - 1))))) e,
)

-- the value that the field has then
value_by : (k : Scene) (signed : Bool) (f : Field) (b : Typed) (n : ℕ) → 1 ≤ f.width → f.width ≤ 32 → Holds k b (Number n) → Holds k (field_value_by signed f b) (Number (extended signed f.width n))
value_by k true f b n some le h =
    let m = n * 2 ^ (32 - f.width) % 2 ^ 32 in
    let down = 32 - f.width in
    let same : Some (Plain (Number (binary_word true binary.ShiftRight m down))) ≡ Some (Plain (Number (extended true f.width n))) = ap (λ (x : ℕ). Some (Plain (Number x))) (lowered_bits true n f.width some le) in
    record {
      word = Plain (Number (extended true f.width n));
      gives =
          lowered_gives k true f (at_top f b) (Plain (Number m)) (Number (extended true f.width n)) some (top_gives k f b n h.word some h.gives h.is)
          (shifts (nat_lt 31 down) (Plain (Number (binary_word true binary.ShiftRight m down))) (near down (omega (arith, some))) ∙ same);
      is = refl;
    }
value_by k false f b n some le h = record {
  word = Plain (Number (n % 2 ^ f.width));
  gives = subst (λ (x : ℕ). Gives k (masked f b) (Plain (Number x))) (and_mask n f.width) (masked_gives k f b n h.word le h.gives h.is);
  is = refl;
}

pub field_value_holds : (k : Scene) (f : Field) (b : Typed) (n : ℕ) → 1 ≤ f.width → f.width ≤ 32 → Holds k b (Number n) → Holds k (field_value f b) (Number (extended f.signed f.width n))
field_value_holds k f b n some le h = value_by k f.signed f b n some le h

-- its bits at the field's place
pub in_unit : (order : Order) (f : Field) → f.first + f.width ≤ 32 → shift_of order f + f.width ≤ 32
in_unit Big f h = omega arith
in_unit Little f h = h

bits_give : (k : Scene) (top : Bool) (order : Order) (f : Field) (b : Typed) (n : ℕ) (w : Word) → 1 ≤ f.width → shift_of order f + f.width ≤ 32 → Gives k b.tree w → w ≡ Plain (Number n) → Gives k (field_bits top order f b) (Plain (Number (placed order f n)))
bits_give k true order f b n w some le h e =
    let down = 32 - f.width - shift_of order f in
    let m = n * 2 ^ (32 - f.width) % 2 ^ 32 in
    let same : Some (Plain (Number (m / 2 ^ down))) ≡ Some (Plain (Number (placed order f n))) = ap (λ (x : ℕ). Some (Plain (Number x))) (top_moved n (shift_of order f) f.width le) in (
      Plain (Number m),
      Plain (Number down),
      (Plain (Number m), top_gives k f b n w some h e, refl),
      i_constant k down (omega arith),
      ap gave (shifts (nat_lt 31 down) (Plain (Number (m / 2 ^ down))) (near down (omega (arith, some))) ∙ same),
    )
bits_give k false order f b n w some le h e =
    let up = shift_of order f in
    let m = bit_and n (2 ^ f.width - 1) in
    let same : Some (Plain (Number (m * 2 ^ up % 2 ^ 32))) ≡ Some (Plain (Number (placed order f n))) = ap (λ (x : ℕ). Some (Plain (Number x))) (bottom_moved n up f.width le) in (
      Plain (Number m),
      Plain (Number up),
      masked_gives k f b n w (omega (arith, le)) h e,
      i_constant k up (omega (arith, some, le)),
      ap gave (shifts (nat_lt 31 up) (Plain (Number (m * 2 ^ up % 2 ^ 32))) (near up (omega (arith, some, le))) ∙ same),
    )

-- ---- stores

pub field_stored_holds : (k : Scene) (old new : List Old) (purpose : Purpose) (f : Field) (top : Bool) (a b : Typed) (p v : Value) → HoldsObjects k old → IsOpenTo purpose k.map k.objects p → 1 ≤ f.width → f.first + f.width ≤ 32 → Holds k a p → Holds k b v → field_written purpose k.environment.order f v old p ≡ Ok new → IsStored k old new (field_stored top k.environment.order f a b)
field_stored_holds k old new purpose f top a b p v os open_to some within h g e =
    let order = k.environment.order in
    let refused = first_cause ((is_no_number v, PointerNumber) ∷ []) in
    let after = unless (write_cause purpose old p 4 4) (c.stored_through old p (with_field order f (number_or_zero v) (c.bytes_through old p 4))) in
    let a_number = first_not (is_no_number v) PointerNumber [] (if_none_none refused after new e) in
    let n = number_of_value v a_number in
    let m = number_or_zero v in
    let is_m : v ≡ Number m = n.1 ∙ ap (λ (z : Value). Number (number_or_zero z)) (sym n.1) in
    let r = unit_is_stored k.map old new k.objects order purpose f p v h.word os.held os.sound h.is open_to within e in
    let place = p_gives k a.suffix a.tree h.word h.gives in
    let unit : Gives k (unit_stored a) r.unit = (r.unit, (h.word, place, ap gave r.reads), refl) in
    let bits = bits_give k top order f b m g.word some (in_unit order f within) g.gives (word_of_number k.map v m g.word is_m g.is) in
    record {
      after = r.after;
      acts = record {
        first = h.word;
        second = r.set;
        left = place;
        right = (
          r.set,
          (
            r.cleared,
            Plain (Number (placed order f m)),
            (r.unit, Plain (Number (other_bits order f)), unit, u_constant k (other_bits order f) (omega arith), ap gave r.clears),
            bits,
            ap gave r.sets,
          ),
          refl,
        );
        does = ap changed r.writes;
      };
      kept = r.kept;
    }
