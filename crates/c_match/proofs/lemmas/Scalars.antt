-- What is read of bytes that stand for a scalar of C.
use Rattle.std.specs.Prelude.{◌≡◌, ◌<◌, ℕ, ◌+◌, ◌-◌, ◌%◌, ◌^◌, ◌==◌, ◌&&◌, ◌||◌, not, nat_lt, bit_and, Bool, true, false, Option, Some, None, is_none, List, [], ◌∷◌, length, map, if◌then◌else◌}
use Rattle.std.proofs.Common.{refl, ap, sym, subst, cond, ◌∙◌, arith}
use Rattle.std.proofs.lemmas.Bool.{eqb-true}
use Rattle.std.proofs.lemmas.List.{length-map}
use Rattle.std.proofs.lemmas.Nat.{and_le_r}
use Rattle.lcc_base.specs.declared.order.Order.{Order}
use Rattle.lcc_base.specs.declared.order.Order.TheVariants.{Big, Little}
use Rattle.lcc_base.specs.declared.cause.Cause.TheVariants.{Unknown, PointerBytes}
use Rattle.objects.specs.declared.byte.Byte.{Byte}
use Rattle.objects.specs.declared.byte.Byte.TheVariants.{Bits, Part}
use Rattle.objects.specs.declared.value.ObjectName.{ObjectName}
use Rattle.objects.specs.declared.value.Value.{Value}
use Rattle.objects.specs.declared.value.Value.TheVariants.{Number, Pointer, Function}
use Rattle.objects.specs.declared.width.Width.{Width}
use Rattle.objects.specs.declared.width.Width.TheVariants.{Four}
use Rattle.objects.specs.declared.width.Scalar.{Scalar}
use Rattle.objects.specs.Values.{bits_in, same_object, same_whole}
use Rattle.objects.specs.Bytes.{known_bytes, settled_of, is_part, has_unknown_bits, has_parts, part_bytes, by_weight, is_part_of, are_rest_of, whole_of, number_of_bytes}
use Rattle.objects.specs.Causes.{breaks_whole}
use Rattle.objects.specs.Conversions.{sign_extended, extended, as_scalar, as_type}
use Rattle.objects.specs.Scalars.{scalar_cause, scalar_value, whole_or}
use Rattle.objects.proofs.lemmas.AccessLaws.{first_not, first_rest}
use Rattle.forests.specs.Sound.{IsSoundByte, AreSoundBytes}
use Rattle.forests.specs.WordBytes.{word_in}
use Rattle.forests.proofs.lemmas.WordLaws.{word_back}
use Rattle.forests.specs.Words.{Word, Plain}
use Rattle.c_match.specs.Ranges.{Map}
use Rattle.c_match.specs.Values.{IsValue}
use Rattle.c_match.specs.Bytes.{IsByteOf, AreBytesOf}

-- ---- tests

or_first : (a b : Bool) → (a || b) ≡ false → a ≡ false
or_first true b e = absurd (let never : ⊥ = cc in never)
or_first false b e = refl

or_rest : (a b : Bool) → (a || b) ≡ false → b ≡ false
or_rest true b e = absurd (let never : ⊥ = cc in never)
or_rest false b e = e

and_first : (a b : Bool) → (a && b) ≡ true → a ≡ true
and_first true b e = refl
and_first false b e = absurd (let never : ⊥ = cc in never)

and_rest : (a b : Bool) → (a && b) ≡ true → b ≡ true
and_rest true b e = e
and_rest false b e = absurd (let never : ⊥ = cc in never)

and_true : (a : Bool) → (a && true) ≡ false → a ≡ false
and_true true e = e
and_true false e = refl

not_false : (b : Bool) → not b ≡ false → b ≡ true
not_false true e = refl
not_false false e = absurd (let never : ⊥ = cc in never)

-- ---- bytes all of whose bits are known

abbrev pub AreSmall : List ℕ → Type 0
AreSmall [] = Unit {0}
AreSmall (v ∷ vs) = (v < 256) × AreSmall vs

known_byte : (map : Map) (b : Byte Value) (c : Byte Word) → IsByteOf map b c → IsSoundByte c → not (settled_of b == 255) ≡ false → is_part b ≡ false → (v : ℕ) × (b ≡ Bits 255 v) × (c ≡ Bits 255 v) × (v < 256)
known_byte map (Bits known value) (Bits mask bits) h s k p =
    let full : known ≡ 255 = eqb-true known 255 (not_false (known == 255) k) in
    let a = and_le_r known mask in
    let b = and_le_r bits known in
    let e = h.0 in
    let f = h.1 in
    let i = s.0 in
    let j = s.1 in
    let m : mask ≡ 255 = omega (arith, a, e, full, i) in
    let same : mask ≡ known = m ∙ sym full in
    let n : bits ≡ value = sym j ∙ ap (λ (x : ℕ). bit_and bits x) same ∙ f in
    let lt : value < 256 = omega (arith, b, f, full) in
    (value, ap (λ (x : ℕ). Bits x value) full, ap (λ (x : ℕ). Bits x bits) m ∙ ap (λ (x : ℕ). Bits 255 x) n, lt)
known_byte map (Bits known value) (Part w place) h s k p = absurd (let full : known ≡ 255 = eqb-true known 255 (not_false (known == 255) k) in let e = h.0 in let never : ⊥ = omega (arith, full, e) in never)
known_byte map (Part v place) c h s k p = absurd (let never : ⊥ = cc in never)

both_lists : (bs : List (Byte Value)) (cs : List (Byte Word)) (b : Byte Value) (c : Byte Word) (v : ℕ) (vs : List ℕ) → b ≡ Bits 255 v → c ≡ Bits 255 v → bs ≡ known_bytes vs → cs ≡ known_bytes vs → (b ∷ bs ≡ known_bytes (v ∷ vs)) × (c ∷ cs ≡ known_bytes (v ∷ vs))
both_lists bs cs b c v vs e f g h = (ap (λ x. x ∷ bs) e ∙ ap (λ xs. Bits 255 v ∷ xs) g, ap (λ x. x ∷ cs) f ∙ ap (λ xs. Bits 255 v ∷ xs) h)

-- known bytes of C stand as the same bytes
pub known_both : (map : Map) (bs : List (Byte Value)) (cs : List (Byte Word)) → AreBytesOf map bs cs → AreSoundBytes cs → length bs ≡ length cs → has_unknown_bits bs ≡ false → has_parts bs ≡ false → (vs : List ℕ) × (bs ≡ known_bytes vs) × (cs ≡ known_bytes vs) × AreSmall vs
known_both map [] [] h s l k p = ([], refl, refl, tt)
known_both map [] (c ∷ cs) h s l k p = absurd (let never : ⊥ = omega arith in never)
known_both map (b ∷ bs) [] h s l k p = absurd h
known_both map (b ∷ bs) (c ∷ cs) h s l k p =
    let first = known_byte map b c h.0 s.0 (or_first (not (settled_of b == 255)) (has_unknown_bits bs) k) (or_first (is_part b) (has_parts bs) p) in
    let rest = known_both map bs cs h.1 s.1 (omega arith) (or_rest (not (settled_of b == 255)) (has_unknown_bits bs) k) (or_rest (is_part b) (has_parts bs) p) in
    let lists = both_lists bs cs b c first.0 rest.0 first.1 first.2 rest.1 rest.2 in
    (first.0 ∷ rest.0, lists.0, lists.1, (first.3, rest.3))

known_length : (vs : List ℕ) → length (known_bytes {V = Value} vs) ≡ length vs
known_length vs = length-map vs (λ n. Bits 255 n)

-- ---- a word of known bits

word_of_four : (order : Order) (vs : List ℕ) → length vs ≡ 4 → word_in order (known_bytes vs) ≡ Plain (Number (number_of_bytes {V = Value} order (known_bytes vs)))
word_of_four order [] e = absurd (let never : ⊥ = omega arith in never)
word_of_four order (a ∷ []) e = absurd (let never : ⊥ = omega arith in never)
word_of_four order (a ∷ b ∷ []) e = absurd (let never : ⊥ = omega arith in never)
word_of_four order (a ∷ b ∷ c ∷ []) e = absurd (let never : ⊥ = omega arith in never)
word_of_four Big (a ∷ b ∷ c ∷ d ∷ []) e = refl
word_of_four Little (a ∷ b ∷ c ∷ d ∷ []) e = refl
word_of_four order (a ∷ b ∷ c ∷ d ∷ f ∷ vs) e = absurd (let never : ⊥ = omega arith in never)

number_below : (order : Order) (vs : List ℕ) → length vs ≡ 4 → AreSmall vs → number_of_bytes {V = Value} order (known_bytes vs) < 2 ^ 32
number_below order [] e h = absurd (let never : ⊥ = omega arith in never)
number_below order (a ∷ []) e h = absurd (let never : ⊥ = omega arith in never)
number_below order (a ∷ b ∷ []) e h = absurd (let never : ⊥ = omega arith in never)
number_below order (a ∷ b ∷ c ∷ []) e h = absurd (let never : ⊥ = omega arith in never)
number_below Big (a ∷ b ∷ c ∷ d ∷ []) e h = let p = h.0 in let q = h.1.0 in let r = h.1.1.0 in let s = h.1.1.1.0 in omega arith
number_below Little (a ∷ b ∷ c ∷ d ∷ []) e h = let p = h.0 in let q = h.1.0 in let r = h.1.1.0 in let s = h.1.1.1.0 in omega arith
number_below order (a ∷ b ∷ c ∷ d ∷ f ∷ vs) e h = absurd (let never : ⊥ = omega arith in never)

signed_word : (n : ℕ) → n < 2 ^ 32 → sign_extended 32 (n % 2 ^ 32) ≡ n
signed_word n h = elim (nat_lt (n % 2 ^ 32) (2 ^ 31)) as (λ b. cond b (n % 2 ^ 32) (n % 2 ^ 32 + (2 ^ 32 - 2 ^ 32)) ≡ n) [ true ↦ omega arith | false ↦ omega arith ]

-- a word's low bits are it
whole_word : (signed : Bool) (n : ℕ) → n < 2 ^ 32 → extended signed 32 n ≡ n
whole_word true n h = signed_word n h
whole_word false n h = omega arith

word_stays : (s : Scalar) (n : ℕ) → s.width ≡ Four → n < 2 ^ 32 → as_scalar s n ≡ n
word_stays s n e h = ap (λ (w : Width). extended s.signed (bits_in w) n) e ∙ whole_word s.signed n h

-- ---- the bytes of a pointer or function

name_is : (a b : ObjectName) → a.place ≡ b.place → a.made ≡ b.made → a.size ≡ b.size → a ≡ b
name_is a b p q r = λ i. record { place = p i; made = q i; size = r i }

object_is : (a b : ObjectName) → same_object a b ≡ true → a ≡ b
object_is a b e =
    let first = and_first (a.place == b.place) ((a.made == b.made) && (a.size == b.size)) e in
    let rest = and_rest (a.place == b.place) ((a.made == b.made) && (a.size == b.size)) e in
    name_is a b (eqb-true a.place b.place first) (eqb-true a.made b.made (and_first (a.made == b.made) (a.size == b.size) rest)) (eqb-true a.size b.size (and_rest (a.made == b.made) (a.size == b.size) rest))

whole_is : (v w : Value) → same_whole v w ≡ true → v ≡ w
whole_is (Pointer a x) (Pointer b y) e =
    ap (λ (o : ObjectName). Pointer o x) (object_is a b (and_first (same_object a b) (x == y) e))
    ∙ ap (λ (z : ℕ). Pointer b z) (eqb-true x y (and_rest (same_object a b) (x == y) e))
whole_is (Function f) (Function g) e = ap (λ (z : ℕ). Function z) (eqb-true f g e)
whole_is (Number n) w e = absurd (let never : ⊥ = cc in never)
whole_is (Pointer a x) (Number n) e = absurd (let never : ⊥ = cc in never)
whole_is (Pointer a x) (Function f) e = absurd (let never : ⊥ = cc in never)
whole_is (Function f) (Number n) e = absurd (let never : ⊥ = cc in never)
whole_is (Function f) (Pointer a x) e = absurd (let never : ⊥ = cc in never)

part_is : (v : Value) (place : ℕ) (b : Byte Value) → is_part_of same_whole v place b ≡ true → b ≡ Part v place
part_is v place (Bits known value) e = absurd (let never : ⊥ = cc in never)
part_is v place (Part w k) e =
    ap (λ (x : Value). Part x k) (sym (whole_is v w (and_first (same_whole v w) (k == place) e)))
    ∙ ap (λ (x : ℕ). Part v x) (eqb-true k place (and_rest (same_whole v w) (k == place) e))

-- four bytes, from the one that weighs most
pub record AreParts (v : Value) (a b c d : Byte Value) : Type 0 where
  pub first : a ≡ Part v 0
  pub second : b ≡ Part v 1
  pub third : c ≡ Part v 2
  pub last : d ≡ Part v 3
  pub whole : same_whole v v ≡ true

rest_are : (v : Value) (k : ℕ) (b c d : Byte Value) → are_rest_of same_whole v 0 (Part v k ∷ b ∷ c ∷ d ∷ []) ≡ true → AreParts v (Part v k) b c d
rest_are v k b c d e =
    let e1 = and_rest (is_part_of same_whole v 0 (Part v k)) (are_rest_of same_whole v 1 (b ∷ c ∷ d ∷ [])) e in
    let e2 = and_rest (is_part_of same_whole v 1 b) (are_rest_of same_whole v 2 (c ∷ d ∷ [])) e1 in
    let e3 = and_rest (is_part_of same_whole v 2 c) (are_rest_of same_whole v 3 (d ∷ [])) e2 in
    let first = and_first (is_part_of same_whole v 0 (Part v k)) (are_rest_of same_whole v 1 (b ∷ c ∷ d ∷ [])) e in
    record {
      first = part_is v 0 (Part v k) first;
      second = part_is v 1 b (and_first (is_part_of same_whole v 1 b) (are_rest_of same_whole v 2 (c ∷ d ∷ [])) e1);
      third = part_is v 2 c (and_first (is_part_of same_whole v 2 c) (are_rest_of same_whole v 3 (d ∷ [])) e2);
      last = part_is v 3 d (and_first (is_part_of same_whole v 3 d) (are_rest_of same_whole v 4 []) e3);
      whole = and_first (same_whole v v) (k == 0) first;
    }

if_some : (b : Bool) (w v : Value) → (if b then Some w else None) ≡ Some v → (b ≡ true) × (w ≡ v)
if_some true w v e = (refl, cc)
if_some false w v e = absurd (let never : ⊥ = cc in never)

four_are : (v : Value) (a b c d : Byte Value) → whole_of same_whole (a ∷ b ∷ c ∷ d ∷ []) ≡ Some v → AreParts v a b c d
four_are v (Bits known value) b c d e = absurd (let never : ⊥ = cc in never)
four_are v (Part w k) b c d e =
    let both = if_some (are_rest_of same_whole w 0 (Part w k ∷ b ∷ c ∷ d ∷ [])) w v e in
    subst (λ (x : Value). AreParts x (Part w k) b c d) both.1 (rest_are w k b c d both.0)

list_is : (a b c d e f g h : Byte Value) → a ≡ e → b ≡ f → c ≡ g → d ≡ h → a ∷ b ∷ c ∷ d ∷ [] ≡ e ∷ f ∷ g ∷ h ∷ []
list_is a b c d e f g h p q r s = cc

-- four bytes of one pointer or function are its bytes
pub whole_bytes : (order : Order) (bs : List (Byte Value)) (v : Value) → length bs ≡ 4 → whole_of same_whole (by_weight order bs) ≡ Some v → (bs ≡ part_bytes order v) × (same_whole v v ≡ true)
whole_bytes order [] v l e = absurd (let never : ⊥ = omega arith in never)
whole_bytes order (a ∷ []) v l e = absurd (let never : ⊥ = omega arith in never)
whole_bytes order (a ∷ b ∷ []) v l e = absurd (let never : ⊥ = omega arith in never)
whole_bytes order (a ∷ b ∷ c ∷ []) v l e = absurd (let never : ⊥ = omega arith in never)
whole_bytes Big (a ∷ b ∷ c ∷ d ∷ []) v l e = let h = four_are v a b c d e in (list_is a b c d (Part v 0) (Part v 1) (Part v 2) (Part v 3) h.first h.second h.third h.last, h.whole)
whole_bytes Little (a ∷ b ∷ c ∷ d ∷ []) v l e = let h = four_are v d c b a e in (list_is a b c d (Part v 3) (Part v 2) (Part v 1) (Part v 0) h.last h.third h.second h.first, h.whole)
whole_bytes order (a ∷ b ∷ c ∷ d ∷ f ∷ bs) v l e = absurd (let never : ⊥ = omega arith in never)

-- one word stands for a value
pub one_word : (map : Map) (v : Value) (w u : Word) → IsValue map v w → IsValue map v u → w ≡ u
one_word map (Number n) w u h g = h ∙ sym g
one_word map (Function f) w u h g = h ∙ sym g
one_word map (Pointer object offset) w u h g =
    let e = h.1 in
    let f = g.1 in
    let same : h.0 ≡ g.0 = cc in
    h.2 ∙ ap (λ r. Plain (Pointer r.object (r.start + offset))) same ∙ sym g.2

part_byte : (map : Map) (v : Value) (place : ℕ) (c : Byte Word) → IsByteOf map (Part v place) c → (w : Word) × IsValue map v w × (c ≡ Part w place)
part_byte map v place (Part w k) h = (w, h.0, ap (λ (x : ℕ). Part w x) (sym h.1))
part_byte map v place (Bits mask bits) h = absurd h

same_parts : (map : Map) (v : Value) (w : Word) (place : ℕ) (c : Byte Word) → IsValue map v w → IsByteOf map (Part v place) c → c ≡ Part w place
same_parts map v w place c is h = let p = part_byte map v place c h in p.2 ∙ ap (λ (x : Word). Part x place) (one_word map v p.0 w p.1 is)

words_is : (a b c d e f g h : Byte Word) → a ≡ e → b ≡ f → c ≡ g → d ≡ h → a ∷ b ∷ c ∷ d ∷ [] ≡ e ∷ f ∷ g ∷ h ∷ []
words_is a b c d e f g h p q r s = cc

parts_stand : (map : Map) (order : Order) (v : Value) (cs : List (Byte Word)) → length cs ≡ 4 → AreBytesOf map (part_bytes order v) cs → (w : Word) × IsValue map v w × (cs ≡ part_bytes order w)
parts_stand map order v [] l h = absurd (let never : ⊥ = omega arith in never)
parts_stand map order v (a ∷ []) l h = absurd (let never : ⊥ = omega arith in never)
parts_stand map order v (a ∷ b ∷ []) l h = absurd (let never : ⊥ = omega arith in never)
parts_stand map order v (a ∷ b ∷ c ∷ []) l h = absurd (let never : ⊥ = omega arith in never)
parts_stand map Big v (a ∷ b ∷ c ∷ d ∷ []) l h =
    let p = part_byte map v 0 a h.0 in
    (p.0, p.1, words_is a b c d (Part p.0 0) (Part p.0 1) (Part p.0 2) (Part p.0 3) p.2 (same_parts map v p.0 1 b p.1 h.1.0) (same_parts map v p.0 2 c p.1 h.1.1.0) (same_parts map v p.0 3 d p.1 h.1.1.1.0))
parts_stand map Little v (a ∷ b ∷ c ∷ d ∷ []) l h =
    let p = part_byte map v 3 a h.0 in
    (p.0, p.1, words_is a b c d (Part p.0 3) (Part p.0 2) (Part p.0 1) (Part p.0 0) p.2 (same_parts map v p.0 2 b p.1 h.1.0) (same_parts map v p.0 1 c p.1 h.1.1.0) (same_parts map v p.0 0 d p.1 h.1.1.1.0))
parts_stand map order v (a ∷ b ∷ c ∷ d ∷ f ∷ cs) l h = absurd (let never : ⊥ = omega arith in never)

-- the word of its bytes
whole_word_is : (map : Map) (order : Order) (v : Value) (w : Word) → same_whole v v ≡ true → IsValue map v w → word_in order (part_bytes order w) ≡ w
whole_word_is map order (Number n) w e h = absurd (let never : ⊥ = cc in never)
whole_word_is map order (Pointer object offset) w e h = subst (λ (x : Word). word_in order (part_bytes order x) ≡ x) (sym h.2) (word_back order (Plain (Pointer h.0.object (h.0.start + offset))) tt)
whole_word_is map order (Function f) w e h = subst (λ (x : Word). word_in order (part_bytes order x) ≡ x) (sym h) (word_back order (Plain (Function f)) tt)

of_type : (s : Scalar) (v : Value) → same_whole v v ≡ true → as_type s v ≡ v
of_type s (Number n) e = absurd (let never : ⊥ = cc in never)
of_type s (Pointer object offset) e = refl
of_type s (Function f) e = refl

-- ---- a scalar of four bytes

by_whole : (map : Map) (order : Order) (s : Scalar) (bs : List (Byte Value)) (cs : List (Byte Word)) (o : Option Value) → AreBytesOf map bs cs → AreSoundBytes cs → length bs ≡ 4 → length cs ≡ 4 → s.width ≡ Four → has_unknown_bits bs ≡ false → whole_of same_whole (by_weight order bs) ≡ o → (has_parts bs && is_none o) ≡ false → IsValue map (as_type s (whole_or o (number_of_bytes order bs))) (word_in order cs)
by_whole map order s bs cs None h sound l m w k e p =
    let both = known_both map bs cs h sound (l ∙ sym m) k (and_true (has_parts bs) p) in
    let vs = both.0 in
    let long : length vs ≡ 4 = sym (known_length vs) ∙ sym (ap length both.1) ∙ l in
    let n = number_of_bytes {V = Value} order (known_bytes vs) in
    let word : word_in order cs ≡ Plain (Number n) = ap (word_in order) both.2 ∙ word_of_four order vs long in
    let number : as_scalar s (number_of_bytes order bs) ≡ n = ap (λ (x : List (Byte Value)). as_scalar s (number_of_bytes order x)) both.1 ∙ word_stays s n w (number_below order vs long both.3) in
    word ∙ sym (ap (λ (x : ℕ). Plain (Number x)) number)
by_whole map order s bs cs (Some v) h sound l m w k e p =
    let it = whole_bytes order bs v l e in
    let stand = parts_stand map order v cs m (subst (λ (x : List (Byte Value)). AreBytesOf map x cs) it.0 h) in
    let word : word_in order cs ≡ stand.0 = ap (word_in order) stand.2 ∙ whole_word_is map order v stand.0 it.1 stand.1 in
    subst (λ (x : Value). IsValue map x (word_in order cs)) (sym (of_type s v it.1)) (subst (λ (x : Word). IsValue map v x) (sym word) stand.1)

pub word_is_read : (map : Map) (order : Order) (s : Scalar) (bs : List (Byte Value)) (cs : List (Byte Word)) → AreBytesOf map bs cs → AreSoundBytes cs → length bs ≡ 4 → length cs ≡ 4 → s.width ≡ Four → scalar_cause order bs ≡ None → IsValue map (as_type s (scalar_value order bs)) (word_in order cs)
word_is_read map order s bs cs h sound l m w e =
    let unknown = first_not (has_unknown_bits bs) Unknown ((breaks_whole same_whole order bs, PointerBytes) ∷ []) e in
    let rest = first_rest (has_unknown_bits bs) Unknown ((breaks_whole same_whole order bs, PointerBytes) ∷ []) e in
    let breaks = first_not (breaks_whole same_whole order bs) PointerBytes [] rest in
    by_whole map order s bs cs (whole_of same_whole (by_weight order bs)) h sound l m w unknown refl breaks
