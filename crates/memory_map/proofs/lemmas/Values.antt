-- The bytes of a word are alike in forests and in a machine, and so is the word of four bytes.
use Rattle.std.proofs.Common.{◌≡◌, ℕ, zero, suc, ◌+◌, ◌*◌, ◌/◌, ◌%◌, ◌^◌, ◌<◌, [], ◌∷◌, Bool, true, false, Some, None, length, refl, sym, ap, ◌∙◌, subst, arith}
use Rattle.std.specs.Prelude.{◌==◌, ◌&&◌, if◌then◌else◌, bit_and, slice_get}
use Rattle.std.specs.List.{AllZip}
use Rattle.std.specs.Int.Bits.{and_zero_r}
use Rattle.std.proofs.lemmas.Nat.{and_block, and_shr, and_mod, and_mask}
use Rattle.std.proofs.lemmas.Bool.{eqb-true}
use Rattle.lcc_base.specs.declared.order.Order.{Order}
use Rattle.lcc_base.specs.declared.order.Order.TheVariants.{Big, Little}
use Rattle.lcc_base.specs.NumberIn.{number_of}
use Rattle.objects.specs.declared.byte.Byte.{Byte}
use Rattle.objects.specs.declared.byte.Byte.TheVariants.{Bits, Part}
use Rattle.objects.specs.declared.value.Value.TheVariants.{Number, Pointer, Function}
use Rattle.objects.specs.Bytes.{known_of, value_of, number_bytes, part_bytes, are_rest_of, is_part_of}
use Rattle.objects.specs.Values.{same_object}
use Rattle.forests.specs.Words.{Word, Plain, Label, Partly, known_word, same_word}
use Rattle.forests.specs.WordBytes.{word_bytes, word_in, whole_or}
use Rattle.memory_map.specs.Maps.{Map, IsWord, IsByte}
use Rattle.memory_map.specs.Reading.{WordsHaveBytes, BytesAreWords}
use Rattle.memory_map.proofs.lemmas.Overwritten.{none_some, some_is}

below_byte : (m : ℕ) → m % 256 < 256
below_byte m = omega arith

-- a byte of a word and of its mask
masked : (h mask bits k : ℕ) → bit_and h mask ≡ bits → bit_and (h / 2 ^ k % 256) (mask / 2 ^ k % 256) ≡ bits / 2 ^ k % 256
masked h mask bits k e = sym (and_mod (h / 2 ^ k) (mask / 2 ^ k) 8) ∙ ap (λ (n : ℕ). n % 2 ^ 8) (sym (and_shr h mask k) ∙ ap (λ (n : ℕ). n / 2 ^ k) e)

all_known : (n : ℕ) → n < 256 → bit_and n 255 ≡ n
all_known n l = and_mask n 8 ∙ small n l
  where
    small : (m : ℕ) → m < 256 → m % 2 ^ 8 ≡ m
    small m s = omega (arith, s)

number_byte : (map : Map) (n : ℕ) → IsByte map (Bits 255 (n % 256)) (n % 256)
number_byte map n = (below_byte n, omega arith, all_known (n % 256) (below_byte n))

-- the four bytes, from the one that weighs least
byte_two : (n : ℕ) → n / 256 % 256 ≡ n / 2 ^ 8 % 256
byte_two n = refl

byte_three : (n : ℕ) → n / 256 / 256 % 256 ≡ n / 2 ^ 16 % 256
byte_three n = omega arith

byte_four : (n : ℕ) → n / 256 / 256 / 256 % 256 ≡ n / 2 ^ 24 % 256
byte_four n = omega arith

masked_one : (h mask bits : ℕ) → bit_and h mask ≡ bits → bit_and (h % 256) (mask % 256) ≡ bits % 256
masked_one h mask bits e = sym (and_mod h mask 8) ∙ ap (λ (n : ℕ). n % 2 ^ 8) e

masked_two : (h mask bits : ℕ) → bit_and h mask ≡ bits → bit_and (h / 256 % 256) (mask / 256 % 256) ≡ bits / 256 % 256
masked_two h mask bits e = masked h mask bits 8 e

masked_three : (h mask bits : ℕ) → bit_and h mask ≡ bits → bit_and (h / 256 / 256 % 256) (mask / 256 / 256 % 256) ≡ bits / 256 / 256 % 256
masked_three h mask bits e =
    ap (λ (n : ℕ). bit_and n (mask / 256 / 256 % 256)) (byte_three h) ∙ ap (λ (n : ℕ). bit_and (h / 2 ^ 16 % 256) n) (byte_three mask) ∙ masked h mask bits 16 e ∙ sym (byte_three bits)

masked_four : (h mask bits : ℕ) → bit_and h mask ≡ bits → bit_and (h / 256 / 256 / 256 % 256) (mask / 256 / 256 / 256 % 256) ≡ bits / 256 / 256 / 256 % 256
masked_four h mask bits e =
    ap (λ (n : ℕ). bit_and n (mask / 256 / 256 / 256 % 256)) (byte_four h)
    ∙ ap (λ (n : ℕ). bit_and (h / 2 ^ 24 % 256) n) (byte_four mask)
    ∙ masked h mask bits 24 e
    ∙ sym (byte_four bits)

partly_byte : (map : Map) (n m b : ℕ) → bit_and (n % 256) (m % 256) ≡ b → IsByte map (Bits (m % 256) b) (n % 256)
partly_byte map n m b e = (below_byte n, below_byte m, e)

-- the bytes of a pointer, function or label
whole_bytes : (map : Map) (order : Order) (w : Word) (h : ℕ) → h < 2 ^ 32 → IsWord map w h → AllZip (IsByte map) (part_bytes order w) (number_bytes order 4 h)
whole_bytes map Big w h small is = ((h, is, small, refl), ((h, is, small, refl), ((h, is, small, refl), ((h, is, small, refl), tt))))
whole_bytes map Little w h small is = ((h, is, small, refl), ((h, is, small, refl), ((h, is, small, refl), ((h, is, small, refl), tt))))

number_alike : (map : Map) (order : Order) (n : ℕ) → AllZip (IsByte map) (word_bytes order (Plain (Number n))) (number_bytes order 4 n)
number_alike map Big n = (number_byte map (n / 256 / 256 / 256), (number_byte map (n / 256 / 256), (number_byte map (n / 256), (number_byte map n, tt))))
number_alike map Little n = (number_byte map n, (number_byte map (n / 256), (number_byte map (n / 256 / 256), (number_byte map (n / 256 / 256 / 256), tt))))

partly_alike : (map : Map) (order : Order) (mask bits h : ℕ) → bit_and h mask ≡ bits → AllZip (IsByte map) (word_bytes order (Partly mask bits)) (number_bytes order 4 h)
partly_alike map Big mask bits h is = (
  partly_byte map (h / 256 / 256 / 256) (mask / 256 / 256 / 256) (bits / 256 / 256 / 256 % 256) (masked_four h mask bits is),
  (
    partly_byte map (h / 256 / 256) (mask / 256 / 256) (bits / 256 / 256 % 256) (masked_three h mask bits is),
    (partly_byte map (h / 256) (mask / 256) (bits / 256 % 256) (masked_two h mask bits is), (partly_byte map h mask (bits % 256) (masked_one h mask bits is), tt)),
  ),
)
partly_alike map Little mask bits h is = (
  partly_byte map h mask (bits % 256) (masked_one h mask bits is),
  (
    partly_byte map (h / 256) (mask / 256) (bits / 256 % 256) (masked_two h mask bits is),
    (
      partly_byte map (h / 256 / 256) (mask / 256 / 256) (bits / 256 / 256 % 256) (masked_three h mask bits is),
      (partly_byte map (h / 256 / 256 / 256) (mask / 256 / 256 / 256) (bits / 256 / 256 / 256 % 256) (masked_four h mask bits is), tt),
    ),
  ),
)

-- what a store writes
pub word_alike : WordsHaveBytes
word_alike map order (Plain (Number n)) h small is = subst (λ (m : ℕ). AllZip (IsByte map) (word_bytes order (Plain (Number n))) (number_bytes order 4 m)) (sym is) (number_alike map order n)
word_alike map order (Plain (Pointer object offset)) h small is = whole_bytes map order (Plain (Pointer object offset)) h small is
word_alike map order (Plain (Function f)) h small is = whole_bytes map order (Plain (Function f)) h small is
word_alike map order (Label f l) h small is = whole_bytes map order (Label f l) h small is
word_alike map order (Partly mask bits) h small is = partly_alike map order mask bits h is

-- ---- the word of four bytes

-- what is known of a byte
pub record Knows (b : Byte Word) (v : ℕ) : Type 0 where
  pub small : v < 256
  pub few : known_of b < 256
  pub has : bit_and v (known_of b) ≡ value_of b

byte_of_four : (x k v : ℕ) → slice_get (number_bytes Big 4 x) k ≡ Some v → v < 256
byte_of_four x zero v e = let q = some_is (x / 256 / 256 / 256 % 256) v e in omega (arith, q)
byte_of_four x (suc zero) v e = let q = some_is (x / 256 / 256 % 256) v e in omega (arith, q)
byte_of_four x (suc (suc zero)) v e = let q = some_is (x / 256 % 256) v e in omega (arith, q)
byte_of_four x (suc (suc (suc zero))) v e = let q = some_is (x % 256) v e in omega (arith, q)
byte_of_four x (suc (suc (suc (suc k)))) v e = absurd (none_some v e)

pub knows : (map : Map) (b : Byte Word) (v : ℕ) → IsByte map b v → Knows b v
knows map (Bits known value) v is = record { small = is.0; few = is.1; has = is.2 }
knows map (Part w k) v is = record { small = byte_of_four is.0 k v is.3; few = omega arith; has = and_zero_r v }

abbrev pair : ℕ → ℕ → ℕ
pair a b = a * 2 ^ 8 + b

-- the number of four bytes, from the one that weighs most
abbrev four_of : ℕ → ℕ → ℕ → ℕ → ℕ
four_of a b c d = pair (pair (pair a b) c) d

pair_bits : (u v m n p q : ℕ) → v < 256 → n < 256 → bit_and u m ≡ p → bit_and v n ≡ q → bit_and (pair u v) (pair m n) ≡ pair p q
pair_bits u v m n p q sv sn e f = and_block 8 u m v n sv sn ∙ ap (λ (x : ℕ). x * 2 ^ 8 + bit_and v n) e ∙ ap (λ (x : ℕ). p * 2 ^ 8 + x) f

is_four : (a b c d : ℕ) → number_of (a ∷ b ∷ c ∷ d ∷ []) ≡ four_of a b c d
is_four a b c d = omega arith

four_small : (a b c d : ℕ) → a < 256 → b < 256 → c < 256 → d < 256 → four_of a b c d < 2 ^ 32
four_small a b c d ha hb hc hd = omega (arith, ha, hb, hc, hd)

low : (m : ℕ) → m < 2 ^ 32 → m % 2 ^ 32 ≡ m
low m k = omega (arith, k)

all_bits : (n : ℕ) → n < 2 ^ 32 → n ≡ bit_and n 4294967295
all_bits n l = sym (and_mask n 32 ∙ low n l)

is_whole : (map : Map) (known : Bool) (h mask bits : ℕ) → (known ≡ true → h ≡ bits) → bit_and h mask ≡ bits → IsWord map (if known then Plain (Number bits) else Partly mask bits) h
is_whole map true h mask bits e is = e refl
is_whole map false h mask bits e is = is

is_known : (map : Map) (h mask bits : ℕ) → h < 2 ^ 32 → bit_and h mask ≡ bits → IsWord map (known_word mask bits) h
is_known map h mask bits small e =
    is_whole map (mask == 4294967295) h mask bits (λ known. all_bits h small ∙ ap (λ (m : ℕ). bit_and h m) (sym (eqb-true mask 4294967295 known)) ∙ e) e

-- the known bits of four bytes
mixed : (map : Map) (a b c d : Byte Word) (p q r s : ℕ) → Knows a p → Knows b q → Knows c r → Knows d s → IsWord map (known_word (number_of (known_of a ∷ known_of b ∷ known_of c ∷ known_of d ∷ [])) (number_of (value_of a ∷ value_of b ∷ value_of c ∷ value_of d ∷ []))) (number_of (p ∷ q ∷ r ∷ s ∷ []))
mixed map a b c d p q r s ka kb kc kd =
    let mask = four_of (known_of a) (known_of b) (known_of c) (known_of d) in
    let bits = four_of (value_of a) (value_of b) (value_of c) (value_of d) in
    let e : bit_and (four_of p q r s) mask ≡ bits =
    pair_bits (pair (pair p q) r) s (pair (pair (known_of a) (known_of b)) (known_of c)) (known_of d) (pair (pair (value_of a) (value_of b)) (value_of c)) (value_of d) kd.small kd.few
    (pair_bits (pair p q) r (pair (known_of a) (known_of b)) (known_of c) (pair (value_of a) (value_of b)) (value_of c) kc.small kc.few (pair_bits p q (known_of a) (known_of b) (value_of a) (value_of b) kb.small kb.few ka.has kb.has) kc.has)
    kd.has in
    subst (λ (n : ℕ). IsWord map (known_word (number_of (known_of a ∷ known_of b ∷ known_of c ∷ known_of d ∷ [])) (number_of (value_of a ∷ value_of b ∷ value_of c ∷ value_of d ∷ []))) n) (sym (is_four p q r s))
    (subst (λ (n : ℕ). IsWord map (known_word n (number_of (value_of a ∷ value_of b ∷ value_of c ∷ value_of d ∷ []))) (four_of p q r s)) (sym (is_four (known_of a) (known_of b) (known_of c) (known_of d)))
    (subst (λ (n : ℕ). IsWord map (known_word mask n) (four_of p q r s)) (sym (is_four (value_of a) (value_of b) (value_of c) (value_of d)))
    (is_known map (four_of p q r s) mask bits (four_small p q r s ka.small kb.small kc.small kd.small) e)))

never_true : false ≡ true → ⊥
never_true e = cc

and_parts : (a b : Bool) → (a && b) ≡ true → (a ≡ true) × (b ≡ true)
and_parts true b e = (refl, e)
and_parts false b e = (e, absurd (never_true e))

-- a pointer, function or label is one word of the machine
pub same_words : (map : Map) (v w : Word) (x y : ℕ) → same_word v w ≡ true → IsWord map v x → IsWord map w y → x ≡ y
same_words map (Plain (Pointer o z)) (Plain (Pointer p y)) a b same is it =
    let e = and_parts (same_object o p) (z == y) same in
    let f = and_parts (o.place == p.place) ((o.made == p.made) && (o.size == p.size)) e.0 in
    let there = eqb-true o.made p.made (and_parts (o.made == p.made) (o.size == p.size) f.1).0 in
    let start : is.0 ≡ it.0 = some_is is.0 it.0 (sym is.1 ∙ ap map.object there ∙ it.1) in
    is.2 ∙ ap (λ (n : ℕ). (n + z) % 2 ^ 32) start ∙ ap (λ (n : ℕ). (it.0 + n) % 2 ^ 32) (eqb-true z y e.1) ∙ sym it.2
same_words map (Plain (Function f)) (Plain (Function g)) a b same is it = is ∙ ap map.function (eqb-true f g same) ∙ sym it
same_words map (Label f l) (Label g m) a b same is it =
    let e = and_parts (f == g) (l == m) same in
    is ∙ ap (λ (n : ℕ). map.label n l) (eqb-true f g e.0) ∙ ap (λ (n : ℕ). map.label g n) (eqb-true l m e.1) ∙ sym it
same_words map (Plain (Number n)) (Plain (Number m)) a b same is it = absurd (never_true same)
same_words map (Plain (Number n)) (Plain (Pointer p y)) a b same is it = absurd (never_true same)
same_words map (Plain (Number n)) (Plain (Function g)) a b same is it = absurd (never_true same)
same_words map (Plain (Number n)) (Label g k) a b same is it = absurd (never_true same)
same_words map (Plain (Number n)) (Partly m c) a b same is it = absurd (never_true same)
same_words map (Plain (Pointer o z)) (Plain (Number m)) a b same is it = absurd (never_true same)
same_words map (Plain (Pointer o z)) (Plain (Function g)) a b same is it = absurd (never_true same)
same_words map (Plain (Pointer o z)) (Label g k) a b same is it = absurd (never_true same)
same_words map (Plain (Pointer o z)) (Partly m c) a b same is it = absurd (never_true same)
same_words map (Plain (Function f)) (Plain (Number m)) a b same is it = absurd (never_true same)
same_words map (Plain (Function f)) (Plain (Pointer p y)) a b same is it = absurd (never_true same)
same_words map (Plain (Function f)) (Label g k) a b same is it = absurd (never_true same)
same_words map (Plain (Function f)) (Partly m c) a b same is it = absurd (never_true same)
same_words map (Label f l) (Plain (Number m)) a b same is it = absurd (never_true same)
same_words map (Label f l) (Plain (Pointer p y)) a b same is it = absurd (never_true same)
same_words map (Label f l) (Plain (Function g)) a b same is it = absurd (never_true same)
same_words map (Label f l) (Partly m c) a b same is it = absurd (never_true same)
same_words map (Partly mask bits) (Plain (Number m)) a b same is it = absurd (never_true same)
same_words map (Partly mask bits) (Plain (Pointer p y)) a b same is it = absurd (never_true same)
same_words map (Partly mask bits) (Plain (Function g)) a b same is it = absurd (never_true same)
same_words map (Partly mask bits) (Label g k) a b same is it = absurd (never_true same)
same_words map (Partly mask bits) (Partly m c) a b same is it = absurd (never_true same)

-- a byte of this word
byte_is : (map : Map) (w : Word) (x k : ℕ) (b : Byte Word) (v : ℕ) → IsWord map w x → is_part_of same_word w k b ≡ true → IsByte map b v → slice_get (number_bytes Big 4 x) k ≡ Some v
byte_is map w x k (Bits known value) v is part b = absurd (never_true part)
byte_is map w x k (Part u j) v is part b =
    let e = and_parts (same_word w u) (j == k) part in
    let place : j ≡ k = eqb-true j k e.1 in
    ap (λ (n : ℕ). slice_get (number_bytes Big 4 n) k) (same_words map w u x b.0 e.0 is b.1) ∙ ap (λ (n : ℕ). slice_get (number_bytes Big 4 b.0) n) (sym place) ∙ b.3

bytes_back : (x p q r s : ℕ) → x < 2 ^ 32 → x / 256 / 256 / 256 % 256 ≡ p → x / 256 / 256 % 256 ≡ q → x / 256 % 256 ≡ r → x % 256 ≡ s → number_of (p ∷ q ∷ r ∷ s ∷ []) ≡ x
bytes_back x p q r s small a b c d = omega (arith, small, a, b, c, d)

is_either : (map : Map) (one : Bool) (v w : Word) (h : ℕ) → (one ≡ true → IsWord map v h) → IsWord map w h → IsWord map (whole_or (if one then Some v else None) w) h
is_either map true v w h a b = a refl
is_either map false v w h a b = b

-- four bytes, from the one that weighs most
joined : (map : Map) (a b c d : Byte Word) (p q r s : ℕ) → IsByte map a p → IsByte map b q → IsByte map c r → IsByte map d s → IsWord map (word_in Big (a ∷ b ∷ c ∷ d ∷ [])) (number_of (p ∷ q ∷ r ∷ s ∷ []))
joined map (Bits known value) b c d p q r s ia ib ic id =
    mixed map (Bits known value) b c d p q r s (knows map (Bits known value) p ia) (knows map b q ib) (knows map c r ic) (knows map d s id)
joined map (Part w k) b c d p q r s ia ib ic id =
    is_either map (are_rest_of same_word w 0 (Part w k ∷ b ∷ c ∷ d ∷ [])) w (known_word (number_of (0 ∷ known_of b ∷ known_of c ∷ known_of d ∷ [])) (number_of (0 ∷ value_of b ∷ value_of c ∷ value_of d ∷ []))) (number_of (p ∷ q ∷ r ∷ s ∷ [])) whole
    (mixed map (Part w k) b c d p q r s (knows map (Part w k) p ia) (knows map b q ib) (knows map c r ic) (knows map d s id))
  where
    whole : are_rest_of same_word w 0 (Part w k ∷ b ∷ c ∷ d ∷ []) ≡ true → IsWord map w (number_of (p ∷ q ∷ r ∷ s ∷ []))
    whole e =
        let e0 = and_parts (is_part_of same_word w 0 (Part w k)) (are_rest_of same_word w 1 (b ∷ c ∷ d ∷ [])) e in
        let e1 = and_parts (is_part_of same_word w 1 b) (are_rest_of same_word w 2 (c ∷ d ∷ [])) e0.1 in
        let e2 = and_parts (is_part_of same_word w 2 c) (are_rest_of same_word w 3 (d ∷ [])) e1.1 in
        let e3 = and_parts (is_part_of same_word w 3 d) (are_rest_of same_word w 4 []) e2.1 in
        let x = ia.0 in
        let a0 = byte_is map w x 0 (Part w k) p ia.1 e0.0 ia in
        let a1 = byte_is map w x 1 b q ia.1 e1.0 ib in
        let a2 = byte_is map w x 2 c r ia.1 e2.0 ic in
        let a3 = byte_is map w x 3 d s ia.1 e3.0 id in
        subst (IsWord map w) (sym (bytes_back x p q r s ia.2 (some_is (x / 256 / 256 / 256 % 256) p a0) (some_is (x / 256 / 256 % 256) q a1) (some_is (x / 256 % 256) r a2) (some_is (x % 256) s a3))) ia.1

no_length : (n : ℕ) → suc (suc (suc (suc (suc n)))) ≡ 4 → ⊥
no_length n e = omega (arith, e)

-- what a load reads
pub word_is : BytesAreWords
word_is map order [] vs long is = absurd (omega (arith, long))
word_is map order (a ∷ []) vs long is = absurd (omega (arith, long))
word_is map order (a ∷ b ∷ []) vs long is = absurd (omega (arith, long))
word_is map order (a ∷ b ∷ c ∷ []) vs long is = absurd (omega (arith, long))
word_is map order (a ∷ b ∷ c ∷ d ∷ e ∷ bs) vs long is = absurd (no_length (length bs) long)
word_is map order (a ∷ b ∷ c ∷ d ∷ []) [] long is = absurd is
word_is map order (a ∷ b ∷ c ∷ d ∷ []) (p ∷ []) long is = absurd is.1
word_is map order (a ∷ b ∷ c ∷ d ∷ []) (p ∷ q ∷ []) long is = absurd is.1.1
word_is map order (a ∷ b ∷ c ∷ d ∷ []) (p ∷ q ∷ r ∷ []) long is = absurd is.1.1.1
word_is map order (a ∷ b ∷ c ∷ d ∷ []) (p ∷ q ∷ r ∷ s ∷ t ∷ vs) long is = absurd is.1.1.1.1
word_is map Big (a ∷ b ∷ c ∷ d ∷ []) (p ∷ q ∷ r ∷ s ∷ []) long is = joined map a b c d p q r s is.0 is.1.0 is.1.1.0 is.1.1.1.0
word_is map Little (a ∷ b ∷ c ∷ d ∷ []) (p ∷ q ∷ r ∷ s ∷ []) long is = joined map d c b a s r q p is.1.1.1.0 is.1.1.0 is.1.0 is.0
