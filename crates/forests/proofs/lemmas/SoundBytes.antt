-- The bytes of words are sound, and so are the words of bytes.
use Rattle.std.specs.Prelude.{◌≡◌, ◌<◌, ◌≤◌, ℕ, zero, suc, ◌+◌, ◌-◌, ◌*◌, ◌/◌, ◌%◌, ◌^◌, ◌==◌, bit_and, Bool, true, false, Some, None, List, [], ◌∷◌, ◌++◌, length, map, replicate, take, drop, slice_get, if◌then◌else◌}
use Rattle.std.proofs.Common.{refl, sym, ap, subst, ◌∙◌, arith}
use Rattle.std.proofs.lemmas.List.{length-map}
use Rattle.std.proofs.Math.Nat.{pow-suc}
use Rattle.std.proofs.lemmas.Nat.{and_shr, and_mod, and_le_r, mod_below, pow-add, mul-add-lt}
use Rattle.lcc_base.specs.declared.order.Order.{Order}
use Rattle.lcc_base.specs.declared.order.Order.TheVariants.{Big, Little}
use Rattle.lcc_base.specs.NumberIn.{number_of, number_in}
use Rattle.objects.specs.declared.byte.Byte.{Byte}
use Rattle.objects.specs.declared.byte.Byte.TheVariants.{Bits, Part}
use Rattle.objects.specs.declared.value.Value.{Value}
use Rattle.objects.specs.declared.value.Value.TheVariants.{Number, Pointer, Function}
use Rattle.objects.specs.Bytes.{known_of, value_of, by_weight, are_rest_of, whole_of}
use Rattle.objects.specs.Objects.{overwritten}
use Rattle.forests.specs.Words.{Word, Plain, Label, Partly, IsWord, known_word, same_word}
use Rattle.forests.specs.WordBytes.{word_bytes, whole_or, word_in}
use Rattle.forests.specs.Objects.{Object, contents, stored, stored_through, bytes_through}
use Rattle.forests.proofs.lemmas.BitLaws.{and_parts}
use Rattle.forests.proofs.lemmas.MayBe.{and_ones}
use Rattle.forests.specs.Sound.{IsSoundByte, AreSoundBytes, AreSoundObjects}

-- ---- lists

pub bytes_append : (xs ys : List (Byte Word)) → AreSoundBytes xs → AreSoundBytes ys → AreSoundBytes (xs ++ ys)
bytes_append [] ys h k = k
bytes_append (x ∷ xs) ys h k = (h.0, bytes_append xs ys h.1 k)

bytes_take : (n : ℕ) (xs : List (Byte Word)) → AreSoundBytes xs → AreSoundBytes (take n xs)
bytes_take zero [] h = tt
bytes_take zero (x ∷ xs) h = tt
bytes_take (suc n) [] h = tt
bytes_take (suc n) (x ∷ xs) h = (h.0, bytes_take n xs h.1)

bytes_drop : (n : ℕ) (xs : List (Byte Word)) → AreSoundBytes xs → AreSoundBytes (drop n xs)
bytes_drop zero [] h = tt
bytes_drop zero (x ∷ xs) h = h
bytes_drop (suc n) [] h = tt
bytes_drop (suc n) (x ∷ xs) h = bytes_drop n xs h.1

bytes_overwritten : (n : ℕ) (new old : List (Byte Word)) → AreSoundBytes new → AreSoundBytes old → AreSoundBytes (overwritten n new old)
bytes_overwritten zero [] old h k = k
bytes_overwritten zero (x ∷ xs) [] h k = tt
bytes_overwritten zero (x ∷ xs) (y ∷ ys) h k = (h.0, bytes_overwritten zero xs ys h.1 k.1)
bytes_overwritten (suc n) new [] h k = tt
bytes_overwritten (suc n) new (y ∷ ys) h k = (k.0, bytes_overwritten n new ys h k.1)

pub bytes_replicate : (n : ℕ) (b : Byte Word) → IsSoundByte b → AreSoundBytes (replicate n b)
bytes_replicate zero b h = tt
bytes_replicate (suc n) b h = (h, bytes_replicate n b h)

pub objects_append : (xs ys : List Object) → AreSoundObjects xs → AreSoundObjects ys → AreSoundObjects (xs ++ ys)
objects_append [] ys h k = k
objects_append (x ∷ xs) ys h k = (h.0, objects_append xs ys h.1 k)

pub objects_take : (n : ℕ) (xs : List Object) → AreSoundObjects xs → AreSoundObjects (take n xs)
objects_take zero [] h = tt
objects_take zero (x ∷ xs) h = tt
objects_take (suc n) [] h = tt
objects_take (suc n) (x ∷ xs) h = (h.0, objects_take n xs h.1)

contents_sound : (objects : List Object) (o : ℕ) → AreSoundObjects objects → AreSoundBytes (contents (slice_get objects o))
contents_sound [] o h = tt
contents_sound (x ∷ xs) zero h = h.0
contents_sound (x ∷ xs) (suc o) h = contents_sound xs o h.1

pub bytes_through_sound : (objects : List Object) (p : Value) (size : ℕ) → AreSoundObjects objects → AreSoundBytes (bytes_through objects p size)
bytes_through_sound objects (Pointer object offset) size h = bytes_take size _ (bytes_drop offset _ (contents_sound objects object.place h))
bytes_through_sound objects (Number n) size h = tt
bytes_through_sound objects (Function f) size h = tt

stored_sound : (objects : List Object) (o place : ℕ) (new : List (Byte Word)) → AreSoundObjects objects → AreSoundBytes new → AreSoundObjects (stored objects o place new)
stored_sound [] o place new h k = tt
stored_sound (x ∷ xs) zero place new h k = (bytes_overwritten place new x.bytes k h.0, h.1)
stored_sound (x ∷ xs) (suc o) place new h k = (h.0, stored_sound xs o place new h.1 k)

pub stored_through_sound : (objects : List Object) (p : Value) (new : List (Byte Word)) → AreSoundObjects objects → AreSoundBytes new → AreSoundObjects (stored_through objects p new)
stored_through_sound objects (Pointer object offset) new h k = stored_sound objects object.place offset new h k
stored_through_sound objects (Number n) new h k = h
stored_through_sound objects (Function f) new h k = h

-- ---- the bytes of words

-- low bits of a number among low bits of a mask
pub low_known : (v m k : ℕ) → bit_and v m ≡ v → bit_and (v % 2 ^ k) (m % 2 ^ k) ≡ v % 2 ^ k
low_known v m k h = sym (and_mod v m k) ∙ ap (λ (x : ℕ). x % 2 ^ k) h

high_known : (v m k : ℕ) → bit_and v m ≡ v → bit_and (v / 2 ^ k) (m / 2 ^ k) ≡ v / 2 ^ k
high_known v m k h = sym (and_shr v m k) ∙ ap (λ (x : ℕ). x / 2 ^ k) h

byte_of : (v m : ℕ) → bit_and v m ≡ v → (m % 256 < 256) × (bit_and (v % 256) (m % 256) ≡ v % 256)
byte_of v m h = (mod_below m 256 (omega arith), low_known v m 8 h)

pub and_full_byte : (n : ℕ) → n < 256 → bit_and n 255 ≡ n
and_full_byte n h = and_ones 8 n h

-- all bits of a byte are known
pub whole_byte : (x : ℕ) → (255 < 256) × (bit_and (x % 256) 255 ≡ x % 256)
whole_byte x = (omega arith, and_full_byte (x % 256) (mod_below x 256 (omega arith)))

pub word_bytes_sound : (order : Order) (w : Word) → IsWord w → AreSoundBytes (word_bytes order w)
word_bytes_sound Big (Plain (Number n)) h = (whole_byte _, (whole_byte _, (whole_byte _, (whole_byte n, tt))))
word_bytes_sound Little (Plain (Number n)) h = (whole_byte n, (whole_byte _, (whole_byte _, (whole_byte _, tt))))
word_bytes_sound Big (Plain (Pointer object offset)) h = (tt, (tt, (tt, (tt, tt))))
word_bytes_sound Little (Plain (Pointer object offset)) h = (tt, (tt, (tt, (tt, tt))))
word_bytes_sound Big (Plain (Function f)) h = (tt, (tt, (tt, (tt, tt))))
word_bytes_sound Little (Plain (Function f)) h = (tt, (tt, (tt, (tt, tt))))
word_bytes_sound Big (Label f l) h = (tt, (tt, (tt, (tt, tt))))
word_bytes_sound Little (Label f l) h = (tt, (tt, (tt, (tt, tt))))
word_bytes_sound Big (Partly mask bits) h =
    let one = high_known bits mask 8 h.1 in
    let two = high_known (bits / 256) (mask / 256) 8 one in
    let three = high_known (bits / 256 / 256) (mask / 256 / 256) 8 two in
    (byte_of (bits / 256 / 256 / 256) (mask / 256 / 256 / 256) three, (byte_of (bits / 256 / 256) (mask / 256 / 256) two, (byte_of (bits / 256) (mask / 256) one, (byte_of bits mask h.1, tt))))
word_bytes_sound Little (Partly mask bits) h =
    let one = high_known bits mask 8 h.1 in
    let two = high_known (bits / 256) (mask / 256) 8 one in
    let three = high_known (bits / 256 / 256) (mask / 256 / 256) 8 two in
    (byte_of bits mask h.1, (byte_of (bits / 256) (mask / 256) one, (byte_of (bits / 256 / 256) (mask / 256 / 256) two, (byte_of (bits / 256 / 256 / 256) (mask / 256 / 256 / 256) three, tt))))

-- ---- the words of bytes

-- a word of known bits
not_all : (mask : ℕ) → (mask == 2 ^ 32 - 1) ≡ false → mask < 2 ^ 32 → mask < 2 ^ 32 - 1
not_all mask e lt = grind (arith, e, lt)

word_by : (b : Bool) (mask bits : ℕ) → (mask == 2 ^ 32 - 1) ≡ b → mask < 2 ^ 32 → bits < 2 ^ 32 → bit_and bits mask ≡ bits → IsWord (if b then Plain (Number bits) else Partly mask bits)
word_by true mask bits e lt small h = small
word_by false mask bits e lt small h = (not_all mask e lt, h)

pub known_word_sound : (mask bits : ℕ) → mask < 2 ^ 32 → bits < 2 ^ 32 → bit_and bits mask ≡ bits → IsWord (known_word mask bits)
known_word_sound mask bits lt small h = word_by (mask == 2 ^ 32 - 1) mask bits refl lt small h

pow_256 : (n : ℕ) → 256 ^ n ≡ 2 ^ (8 * n)
pow_256 zero = refl
pow_256 (suc n) = let e : 8 * suc n ≡ 8 * n + 8 = omega arith in pow-suc 256 n ∙ ap (λ (x : ℕ). x * 256) (pow_256 n) ∙ sym (ap (λ (k : ℕ). 2 ^ k) e ∙ pow-add 2 (8 * n) 8)

-- the masks and values of bytes as numbers
pub record AreNumbers (bytes : List (Byte Word)) : Type 0 where
  pub known : number_of (map known_of bytes) < 2 ^ (8 * length bytes)
  pub value : number_of (map value_of bytes) < 2 ^ (8 * length bytes)
  pub bits : bit_and (number_of (map value_of bytes)) (number_of (map known_of bytes)) ≡ number_of (map value_of bytes)

-- one byte in front
in_front : (f : Byte Word → ℕ) (b : Byte Word) (bs : List (Byte Word)) → number_of (map f (b ∷ bs)) ≡ f b * 2 ^ (8 * length bs) + number_of (map f bs)
in_front f b bs = ap (λ (n : ℕ). f b * 256 ^ n + number_of (map f bs)) (length-map bs f) ∙ ap (λ (x : ℕ). f b * x + number_of (map f bs)) (pow_256 (length bs))

front_below : (x n y : ℕ) → x < 256 → y < 2 ^ (8 * n) → x * 2 ^ (8 * n) + y < 2 ^ (8 * suc n)
front_below x n y hx hy =
    let e : 8 * suc n ≡ 8 * n + 8 = omega arith in
    subst (λ (p : ℕ). x * 2 ^ (8 * n) + y < p) (sym (ap (λ (k : ℕ). 2 ^ k) e ∙ pow-add 2 (8 * n) 8)) (mul-add-lt x (2 ^ (8 * n)) y 256 hx hy)

front_numbers : (b : Byte Word) (bs : List (Byte Word)) → known_of b < 256 → bit_and (value_of b) (known_of b) ≡ value_of b → AreNumbers bs → AreNumbers (b ∷ bs)
front_numbers b bs small among h =
    let j = 8 * length bs in
    let few : bit_and (value_of b) (known_of b) ≤ known_of b = and_le_r (value_of b) (known_of b) in
    let low : value_of b < 256 = omega (arith, few, among, small) in
    record {
      known = subst (λ (n : ℕ). n < 2 ^ (8 * suc (length bs))) (sym (in_front known_of b bs)) (front_below (known_of b) (length bs) (number_of (map known_of bs)) small h.known);
      value = subst (λ (n : ℕ). n < 2 ^ (8 * suc (length bs))) (sym (in_front value_of b bs)) (front_below (value_of b) (length bs) (number_of (map value_of bs)) low h.value);
      bits =
          ap (λ (n : ℕ). bit_and n (number_of (map known_of (b ∷ bs)))) (in_front value_of b bs)
          ∙ ap (λ (n : ℕ). bit_and (value_of b * 2 ^ j + number_of (map value_of bs)) n) (in_front known_of b bs)
          ∙ and_parts j (value_of b) (number_of (map value_of bs)) (known_of b) (number_of (map known_of bs)) h.value h.known
          ∙ ap (λ (n : ℕ). n * 2 ^ j + bit_and (number_of (map value_of bs)) (number_of (map known_of bs))) among
          ∙ ap (λ (n : ℕ). value_of b * 2 ^ j + n) h.bits
          ∙ sym (in_front value_of b bs);
    }

are_numbers : (bytes : List (Byte Word)) → AreSoundBytes bytes → AreNumbers bytes
are_numbers [] h = record { known = omega arith; value = omega arith; bits = refl }
are_numbers (Bits known value ∷ bs) h = front_numbers (Bits known value) bs h.0.0 h.0.1 (are_numbers bs h.1)
are_numbers (Part w place ∷ bs) h = front_numbers (Part w place) bs (omega arith) refl (are_numbers bs h.1)

-- numbers of at most four bytes
few_below : (n x : ℕ) → n ≤ 4 → x < 2 ^ (8 * n) → x < 2 ^ 32
few_below zero x le h = omega arith
few_below (suc zero) x le h = omega arith
few_below (suc (suc zero)) x le h = omega arith
few_below (suc (suc (suc zero))) x le h = omega arith
few_below (suc (suc (suc (suc zero)))) x le h = h
few_below (suc (suc (suc (suc (suc n))))) x le h = absurd (let never : ⊥ = omega (arith, le) in never)

big_sound : (bytes : List (Byte Word)) → length bytes ≤ 4 → AreSoundBytes bytes → IsWord (known_word (number_of (map known_of bytes)) (number_of (map value_of bytes)))
big_sound bytes le h =
    let n = are_numbers bytes h in
    known_word_sound (number_of (map known_of bytes)) (number_of (map value_of bytes)) (few_below (length bytes) _ le n.known) (few_below (length bytes) _ le n.value) n.bits

number_sound : (order : Order) (bytes : List (Byte Word)) → length bytes ≤ 4 → AreSoundBytes bytes → IsWord (known_word (number_in order (map known_of bytes)) (number_in order (map value_of bytes)))
number_sound Big bytes le h = big_sound bytes le h
number_sound Little [] le h = big_sound [] le h
number_sound Little (a ∷ []) le h = big_sound (a ∷ []) le h
number_sound Little (a ∷ b ∷ []) le h = big_sound (b ∷ a ∷ []) le (h.1.0, (h.0, tt))
number_sound Little (a ∷ b ∷ c ∷ []) le h = big_sound (c ∷ b ∷ a ∷ []) le (h.1.1.0, (h.1.0, (h.0, tt)))
number_sound Little (a ∷ b ∷ c ∷ d ∷ []) le h = big_sound (d ∷ c ∷ b ∷ a ∷ []) le (h.1.1.1.0, (h.1.1.0, (h.1.0, (h.0, tt))))
number_sound Little (a ∷ b ∷ c ∷ d ∷ e ∷ bs) le h = absurd (let never : ⊥ = omega (arith, le) in never)

either_sound : (b : Bool) (v other : Word) → IsWord v → IsWord other → IsWord (whole_or (if b then Some v else None) other)
either_sound true v other h k = h
either_sound false v other h k = k

whole_sound : (bytes : List (Byte Word)) (other : Word) → AreSoundBytes bytes → IsWord other → IsWord (whole_or (whole_of same_word bytes) other)
whole_sound [] other h k = k
whole_sound (Bits known value ∷ bs) other h k = k
whole_sound (Part v place ∷ bs) other h k = either_sound (are_rest_of same_word v 0 (Part v place ∷ bs)) v other h.0 k

by_weight_sound : (order : Order) (bytes : List (Byte Word)) → length bytes ≤ 4 → AreSoundBytes bytes → AreSoundBytes (by_weight order bytes)
by_weight_sound Big bytes le h = h
by_weight_sound Little [] le h = tt
by_weight_sound Little (a ∷ []) le h = h
by_weight_sound Little (a ∷ b ∷ []) le h = (h.1.0, (h.0, tt))
by_weight_sound Little (a ∷ b ∷ c ∷ []) le h = (h.1.1.0, (h.1.0, (h.0, tt)))
by_weight_sound Little (a ∷ b ∷ c ∷ d ∷ []) le h = (h.1.1.1.0, (h.1.1.0, (h.1.0, (h.0, tt))))
by_weight_sound Little (a ∷ b ∷ c ∷ d ∷ e ∷ bs) le h = absurd (let never : ⊥ = omega (arith, le) in never)

pub word_in_sound : (order : Order) (bytes : List (Byte Word)) → length bytes ≤ 4 → AreSoundBytes bytes → IsWord (word_in order bytes)
word_in_sound order bytes le h = whole_sound (by_weight order bytes) _ (by_weight_sound order bytes le h) (number_sound order bytes le h)
