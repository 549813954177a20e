-- The word of four bytes that stand for a unit of C: what C knows of the unit, the word has.
use Rattle.std.specs.Prelude.{◌≡◌, ◌<◌, ℕ, ◌+◌, ◌-◌, ◌*◌, ◌^◌, ◌==◌, ◌&&◌, bit_and, Bool, true, false, Option, Some, None, List, [], ◌∷◌, length, map as mapped, if◌then◌else◌}
use Rattle.std.specs.Int.Bits.{and_zero_l, and_zero_r}
use Rattle.std.proofs.Common.{refl, sym, ap, subst, ◌∙◌, arith}
use Rattle.std.proofs.lemmas.Bool.{eqb-true}
use Rattle.std.proofs.lemmas.Nat.{and_le_r}
use Rattle.lcc_base.specs.declared.order.Order.{Order}
use Rattle.lcc_base.specs.declared.order.Order.TheVariants.{Big, Little}
use Rattle.lcc_base.specs.NumberIn.{number_of, number_in}
use Rattle.objects.specs.declared.byte.Byte.{Byte}
use Rattle.objects.specs.declared.byte.Byte.TheVariants.{Bits, Part}
use Rattle.objects.specs.declared.value.Value.{Value}
use Rattle.objects.specs.declared.value.Value.TheVariants.{Number, Pointer, Function}
use Rattle.objects.specs.Bytes.{known_of, value_of, is_part_of, are_rest_of, whole_of}
use Rattle.forests.proofs.lemmas.BitLaws.{and_parts}
use Rattle.forests.specs.Bits.{KnownBits, bits_of}
use Rattle.forests.specs.Sound.{IsSoundByte, AreSoundBytes}
use Rattle.forests.specs.WordBytes.{whole_or, word_in}
use Rattle.forests.specs.Words.{Word, Plain, Label, Partly, known_word, same_word}
use Rattle.c_match.specs.Ranges.{Map}
use Rattle.c_match.specs.Values.{IsValue}
use Rattle.c_match.specs.Bytes.{IsNoLabel, IsByteOf, AreBytesOf}

-- The word has these known bits: it may have more, as C knows less of a unit.
pub record Covers (known value : ℕ) (w : Word) : Type 0 where
  pub bits : KnownBits
  pub are : bits_of w ≡ Some bits
  pub all : bit_and known bits.known ≡ known
  pub same : bit_and bits.value known ≡ value

-- ---- bytes

pub record CoversByte (b : Byte Value) (c : Byte Word) : Type 0 where
  pub all : bit_and (known_of b) (known_of c) ≡ known_of b
  pub same : bit_and (value_of c) (known_of b) ≡ value_of b

pub byte_covers : (map : Map) (b : Byte Value) (c : Byte Word) → IsByteOf map b c → CoversByte b c
byte_covers map (Bits known value) (Bits mask bits) h = record { all = h.0; same = h.1 }
byte_covers map (Bits known value) (Part w place) h = record { all = and_zero_r known ∙ sym h.0; same = and_zero_l known ∙ sym h.1 }
byte_covers map (Part v place) (Part w k) h = record { all = refl; same = refl }
byte_covers map (Part v place) (Bits mask bits) h = absurd h

pub record IsSmallByte (c : Byte Word) : Type 0 where
  pub known : known_of c < 256
  pub value : value_of c < 256

pub small_byte : (c : Byte Word) → IsSoundByte c → IsSmallByte c
small_byte (Bits known value) h = record { known = h.0; value = (let a = and_le_r value known in let k = h.0 in let e = h.1 in omega (arith, a, k, e)) }
small_byte (Part w place) h = record { known = omega arith; value = omega arith }

-- ---- four bytes

same_end : (d h : ℕ) → bit_and (d * 1 + 0) (h * 1 + 0) ≡ bit_and d h * 1 + 0
same_end d h =
    let e : d * 1 + 0 ≡ d = omega arith in
    let f : h * 1 + 0 ≡ h = omega arith in
    ap (λ (x : ℕ). bit_and x (h * 1 + 0)) e ∙ ap (λ (x : ℕ). bit_and d x) f ∙ (let g : bit_and d h ≡ bit_and d h * 1 + 0 = omega arith in g)

pub and_four : (a b c d e f g h : ℕ) → b < 256 → c < 256 → d < 256 → f < 256 → g < 256 → h < 256 → bit_and (number_of (a ∷ b ∷ c ∷ d ∷ [])) (number_of (e ∷ f ∷ g ∷ h ∷ [])) ≡ number_of (bit_and a e ∷ bit_and b f ∷ bit_and c g ∷ bit_and d h ∷ [])
and_four a b c d e f g h lb lc ld lf lg lh =
    and_parts 24 a (b * 2 ^ 16 + (c * 2 ^ 8 + (d * 1 + 0))) e (f * 2 ^ 16 + (g * 2 ^ 8 + (h * 1 + 0))) (omega arith) (omega arith)
    ∙ ap (λ (x : ℕ). bit_and a e * 2 ^ 24 + x) (and_parts 16 b (c * 2 ^ 8 + (d * 1 + 0)) f (g * 2 ^ 8 + (h * 1 + 0)) (omega arith) (omega arith))
    ∙ ap (λ (x : ℕ). bit_and a e * 2 ^ 24 + (bit_and b f * 2 ^ 16 + x)) (and_parts 8 c (d * 1 + 0) g (h * 1 + 0) (omega arith) (omega arith))
    ∙ ap (λ (x : ℕ). bit_and a e * 2 ^ 24 + (bit_and b f * 2 ^ 16 + (bit_and c g * 2 ^ 8 + x))) (same_end d h)

list_is : (a b c d e f g h : ℕ) → a ≡ e → b ≡ f → c ≡ g → d ≡ h → a ∷ b ∷ c ∷ d ∷ [] ≡ e ∷ f ∷ g ∷ h ∷ []
list_is a b c d e f g h p q r s = cc

pub less : (b : Byte Value) (c : Byte Word) → CoversByte b c → IsSmallByte c → known_of b < 256
less b c h s = let a = and_le_r (known_of b) (known_of c) in let e = h.all in let k = s.known in omega (arith, a, e, k)

-- four bytes from the one that weighs most
pub record CoversFour (known value mask bits : ℕ) : Type 0 where
  pub all : bit_and known mask ≡ known
  pub same : bit_and bits known ≡ value

four_cover : (a b c d : Byte Value) (e f g h : Byte Word) → CoversByte a e → CoversByte b f → CoversByte c g → CoversByte d h → IsSmallByte e → IsSmallByte f → IsSmallByte g → IsSmallByte h → CoversFour (number_of (known_of a ∷ known_of b ∷ known_of c ∷ known_of d ∷ [])) (number_of (value_of a ∷ value_of b ∷ value_of c ∷ value_of d ∷ [])) (number_of (known_of e ∷ known_of f ∷ known_of g ∷ known_of h ∷ [])) (number_of (value_of e ∷ value_of f ∷ value_of g ∷ value_of h ∷ []))
four_cover a b c d e f g h p q r s le lf lg lh = record {
  all =
      and_four (known_of a) (known_of b) (known_of c) (known_of d) (known_of e) (known_of f) (known_of g) (known_of h) (less b f q lf) (less c g r lg) (less d h s lh) lf.known lg.known lh.known
      ∙ ap number_of (list_is _ _ _ _ (known_of a) (known_of b) (known_of c) (known_of d) p.all q.all r.all s.all);
  same =
      and_four (value_of e) (value_of f) (value_of g) (value_of h) (known_of a) (known_of b) (known_of c) (known_of d) lf.value lg.value lh.value (less b f q lf) (less c g r lg) (less d h s lh)
      ∙ ap number_of (list_is _ _ _ _ (value_of a) (value_of b) (value_of c) (value_of d) p.same q.same r.same s.same);
}

pub unit_covers : (map : Map) (order : Order) (bs : List (Byte Value)) (cs : List (Byte Word)) → AreBytesOf map bs cs → AreSoundBytes cs → length bs ≡ 4 → length cs ≡ 4 → CoversFour (number_in order (mapped known_of bs)) (number_in order (mapped value_of bs)) (number_in order (mapped known_of cs)) (number_in order (mapped value_of cs))
unit_covers map order [] cs h s l m = absurd (let never : ⊥ = omega arith in never)
unit_covers map order (a ∷ []) cs h s l m = absurd (let never : ⊥ = omega arith in never)
unit_covers map order (a ∷ b ∷ []) cs h s l m = absurd (let never : ⊥ = omega arith in never)
unit_covers map order (a ∷ b ∷ c ∷ []) cs h s l m = absurd (let never : ⊥ = omega arith in never)
unit_covers map order (a ∷ b ∷ c ∷ d ∷ x ∷ bs) cs h s l m = absurd (let never : ⊥ = omega arith in never)
unit_covers map order (a ∷ b ∷ c ∷ d ∷ []) [] h s l m = absurd h
unit_covers map order (a ∷ b ∷ c ∷ d ∷ []) (e ∷ []) h s l m = absurd h.1
unit_covers map order (a ∷ b ∷ c ∷ d ∷ []) (e ∷ f ∷ []) h s l m = absurd h.1.1
unit_covers map order (a ∷ b ∷ c ∷ d ∷ []) (e ∷ f ∷ g ∷ []) h s l m = absurd h.1.1.1
unit_covers map order (a ∷ b ∷ c ∷ d ∷ []) (e ∷ f ∷ g ∷ i ∷ x ∷ cs) h s l m = absurd (let never : ⊥ = omega arith in never)
unit_covers map Big (a ∷ b ∷ c ∷ d ∷ []) (e ∷ f ∷ g ∷ i ∷ []) h s l m = four_cover a b c d e f g i (byte_covers map a e h.0) (byte_covers map b f h.1.0) (byte_covers map c g h.1.1.0) (byte_covers map d i h.1.1.1.0) (small_byte e s.0) (small_byte f s.1.0) (small_byte g s.1.1.0) (small_byte i s.1.1.1.0)
unit_covers map Little (a ∷ b ∷ c ∷ d ∷ []) (e ∷ f ∷ g ∷ i ∷ []) h s l m = four_cover d c b a i g f e (byte_covers map d i h.1.1.1.0) (byte_covers map c g h.1.1.0) (byte_covers map b f h.1.0) (byte_covers map a e h.0) (small_byte i s.1.1.1.0) (small_byte g s.1.1.0) (small_byte f s.1.0) (small_byte e s.0)

-- ---- the word

bits_by : (t : Bool) (mask bits : ℕ) → (mask == 2 ^ 32 - 1) ≡ t → bits_of (if t then Plain (Number bits) else Partly mask bits) ≡ Some (record { known = mask; value = bits })
bits_by true mask bits e = let f : mask ≡ 2 ^ 32 - 1 = eqb-true mask (2 ^ 32 - 1) e in ap (λ (k : ℕ). Some (record { known = k; value = bits })) (sym f)
bits_by false mask bits e = refl

-- the bits of a word that was made of them
pub bits_known : (mask bits : ℕ) → bits_of (known_word mask bits) ≡ Some (record { known = mask; value = bits })
bits_known mask bits = bits_by (mask == 2 ^ 32 - 1) mask bits refl

pub known_covers : (known value mask bits : ℕ) → CoversFour known value mask bits → Covers known value (known_word mask bits)
known_covers known value mask bits h = record { bits = record { known = mask; value = bits }; are = bits_known mask bits; all = h.all; same = h.same }

-- ---- four bytes of one pointer or function: C knows no bit of them

and_first : (a b : Bool) → (a && b) ≡ true → a ≡ true
and_first true b e = refl
and_first false b e = absurd (let never : ⊥ = cc in never)

and_rest : (a b : Bool) → (a && b) ≡ true → b ≡ true
and_rest true b e = e
and_rest false b e = absurd (let never : ⊥ = cc in never)

part_unknown : (v : Word) (place : ℕ) (c : Byte Word) → is_part_of same_word v place c ≡ true → known_of c ≡ 0
part_unknown v place (Bits known value) e = absurd (let never : ⊥ = cc in never)
part_unknown v place (Part w k) e = refl

pub record IsNothing (b : Byte Value) : Type 0 where
  pub known : known_of b ≡ 0
  pub value : value_of b ≡ 0

nothing_known : (b : Byte Value) (c : Byte Word) → CoversByte b c → known_of c ≡ 0 → IsNothing b
nothing_known b c h e =
    let k : known_of b ≡ 0 = sym h.all ∙ ap (λ (x : ℕ). bit_and (known_of b) x) e ∙ and_zero_r (known_of b) in
    record { known = k; value = sym h.same ∙ ap (λ (x : ℕ). bit_and (value_of c) x) k ∙ and_zero_r (value_of c) }

value_unlabelled : (map : Map) (v : Value) (w : Word) → IsValue map v w → IsNoLabel w
value_unlabelled map (Number n) w h = subst (λ (x : Word). IsNoLabel x) (sym h) tt
value_unlabelled map (Pointer object offset) w h = subst (λ (x : Word). IsNoLabel x) (sym h.2) tt
value_unlabelled map (Function f) w h = subst (λ (x : Word). IsNoLabel x) (sym h) tt

unlabelled : (map : Map) (b : Byte Value) (w : Word) (k : ℕ) → IsByteOf map b (Part w k) → IsNoLabel w
unlabelled map (Bits known value) w k h = h.2
unlabelled map (Part v place) w k h = value_unlabelled map v w h.0

no_bits : (w : Word) → same_word w w ≡ true → IsNoLabel w → bits_of w ≡ Some (record { known = 0; value = 0 })
no_bits (Plain (Number n)) e h = absurd (let never : ⊥ = cc in never)
no_bits (Plain (Pointer object offset)) e h = refl
no_bits (Plain (Function f)) e h = refl
no_bits (Label f l) e h = absurd h
no_bits (Partly mask bits) e h = absurd (let never : ⊥ = cc in never)

if_some : (t : Bool) (w v : Word) → (if t then Some w else None) ≡ Some v → (t ≡ true) × (w ≡ v)
if_some true w v e = (refl, cc)
if_some false w v e = absurd (let never : ⊥ = cc in never)

covers_nothing : (a b c d : Byte Value) (w : Word) → IsNothing a → IsNothing b → IsNothing c → IsNothing d → bits_of w ≡ Some (record { known = 0; value = 0 }) → Covers (number_of (known_of a ∷ known_of b ∷ known_of c ∷ known_of d ∷ [])) (number_of (value_of a ∷ value_of b ∷ value_of c ∷ value_of d ∷ [])) w
covers_nothing a b c d w p q r s e =
    let known : number_of (known_of a ∷ known_of b ∷ known_of c ∷ known_of d ∷ []) ≡ 0 = ap number_of (list_is (known_of a) (known_of b) (known_of c) (known_of d) 0 0 0 0 p.known q.known r.known s.known) in
    let value : number_of (value_of a ∷ value_of b ∷ value_of c ∷ value_of d ∷ []) ≡ 0 = ap number_of (list_is (value_of a) (value_of b) (value_of c) (value_of d) 0 0 0 0 p.value q.value r.value s.value) in
    record {
      bits = record { known = 0; value = 0 };
      are = e;
      all = and_zero_r (number_of (known_of a ∷ known_of b ∷ known_of c ∷ known_of d ∷ [])) ∙ sym known;
      same = and_zero_l (number_of (known_of a ∷ known_of b ∷ known_of c ∷ known_of d ∷ [])) ∙ sym value;
    }

parts_cover : (map : Map) (a b c d : Byte Value) (e f g h : Byte Word) (w : Word) → IsByteOf map a e → CoversByte a e → CoversByte b f → CoversByte c g → CoversByte d h → whole_of same_word (e ∷ f ∷ g ∷ h ∷ []) ≡ Some w → Covers (number_of (known_of a ∷ known_of b ∷ known_of c ∷ known_of d ∷ [])) (number_of (value_of a ∷ value_of b ∷ value_of c ∷ value_of d ∷ [])) w
parts_cover map a b c d (Bits known value) f g h w is p q r s eq = absurd (let never : ⊥ = cc in never)
parts_cover map a b c d (Part x k) f g h w is p q r s eq =
    let both = if_some (are_rest_of same_word x 0 (Part x k ∷ f ∷ g ∷ h ∷ [])) x w eq in
    let e0 = and_first (is_part_of same_word x 0 (Part x k)) (are_rest_of same_word x 1 (f ∷ g ∷ h ∷ [])) both.0 in
    let e1 = and_rest (is_part_of same_word x 0 (Part x k)) (are_rest_of same_word x 1 (f ∷ g ∷ h ∷ [])) both.0 in
    let e2 = and_rest (is_part_of same_word x 1 f) (are_rest_of same_word x 2 (g ∷ h ∷ [])) e1 in
    let e3 = and_rest (is_part_of same_word x 2 g) (are_rest_of same_word x 3 (h ∷ [])) e2 in
    let pf = part_unknown x 1 f (and_first (is_part_of same_word x 1 f) (are_rest_of same_word x 2 (g ∷ h ∷ [])) e1) in
    let pg = part_unknown x 2 g (and_first (is_part_of same_word x 2 g) (are_rest_of same_word x 3 (h ∷ [])) e2) in
    let ph = part_unknown x 3 h (and_first (is_part_of same_word x 3 h) (are_rest_of same_word x 4 []) e3) in
    covers_nothing a b c d w (nothing_known a (Part x k) p refl) (nothing_known b f q pf) (nothing_known c g r pg) (nothing_known d h s ph)
    (subst (λ (z : Word). bits_of z ≡ Some (record { known = 0; value = 0 })) both.1 (no_bits x (and_first (same_word x x) (k == 0) e0) (unlabelled map a x k is)))

-- four bytes from the one that weighs most
four_word : (map : Map) (a b c d : Byte Value) (e f g h : Byte Word) (o : Option Word) → IsByteOf map a e → IsByteOf map b f → IsByteOf map c g → IsByteOf map d h → IsSoundByte e → IsSoundByte f → IsSoundByte g → IsSoundByte h → whole_of same_word (e ∷ f ∷ g ∷ h ∷ []) ≡ o → Covers (number_of (known_of a ∷ known_of b ∷ known_of c ∷ known_of d ∷ [])) (number_of (value_of a ∷ value_of b ∷ value_of c ∷ value_of d ∷ [])) (whole_or o (known_word (number_of (known_of e ∷ known_of f ∷ known_of g ∷ known_of h ∷ [])) (number_of (value_of e ∷ value_of f ∷ value_of g ∷ value_of h ∷ []))))
four_word map a b c d e f g h None p q r s le lf lg lh eq = known_covers _ _ _ _ (four_cover a b c d e f g h (byte_covers map a e p) (byte_covers map b f q) (byte_covers map c g r) (byte_covers map d h s) (small_byte e le) (small_byte f lf) (small_byte g lg) (small_byte h lh))
four_word map a b c d e f g h (Some w) p q r s le lf lg lh eq = parts_cover map a b c d e f g h w p (byte_covers map a e p) (byte_covers map b f q) (byte_covers map c g r) (byte_covers map d h s) eq

pub unit_word : (map : Map) (order : Order) (bs : List (Byte Value)) (cs : List (Byte Word)) → AreBytesOf map bs cs → AreSoundBytes cs → length bs ≡ 4 → length cs ≡ 4 → Covers (number_in order (mapped known_of bs)) (number_in order (mapped value_of bs)) (word_in order cs)
unit_word map order [] cs h s l m = absurd (let never : ⊥ = omega arith in never)
unit_word map order (a ∷ []) cs h s l m = absurd (let never : ⊥ = omega arith in never)
unit_word map order (a ∷ b ∷ []) cs h s l m = absurd (let never : ⊥ = omega arith in never)
unit_word map order (a ∷ b ∷ c ∷ []) cs h s l m = absurd (let never : ⊥ = omega arith in never)
unit_word map order (a ∷ b ∷ c ∷ d ∷ x ∷ bs) cs h s l m = absurd (let never : ⊥ = omega arith in never)
unit_word map order (a ∷ b ∷ c ∷ d ∷ []) [] h s l m = absurd h
unit_word map order (a ∷ b ∷ c ∷ d ∷ []) (e ∷ []) h s l m = absurd h.1
unit_word map order (a ∷ b ∷ c ∷ d ∷ []) (e ∷ f ∷ []) h s l m = absurd h.1.1
unit_word map order (a ∷ b ∷ c ∷ d ∷ []) (e ∷ f ∷ g ∷ []) h s l m = absurd h.1.1.1
unit_word map order (a ∷ b ∷ c ∷ d ∷ []) (e ∷ f ∷ g ∷ i ∷ x ∷ cs) h s l m = absurd (let never : ⊥ = omega arith in never)
unit_word map Big (a ∷ b ∷ c ∷ d ∷ []) (e ∷ f ∷ g ∷ i ∷ []) h s l m = four_word map a b c d e f g i (whole_of same_word (e ∷ f ∷ g ∷ i ∷ [])) h.0 h.1.0 h.1.1.0 h.1.1.1.0 s.0 s.1.0 s.1.1.0 s.1.1.1.0 refl
unit_word map Little (a ∷ b ∷ c ∷ d ∷ []) (e ∷ f ∷ g ∷ i ∷ []) h s l m = four_word map d c b a i g f e (whole_of same_word (i ∷ g ∷ f ∷ e ∷ [])) h.1.1.1.0 h.1.1.0 h.1.0 h.0 s.1.1.1.0 s.1.1.0 s.1.0 s.0 refl

-- what C knows of a unit is below 2^32
pub unit_small : (map : Map) (order : Order) (bs : List (Byte Value)) (cs : List (Byte Word)) → AreBytesOf map bs cs → AreSoundBytes cs → length bs ≡ 4 → number_in order (mapped known_of bs) < 2 ^ 32
unit_small map order [] cs h s l = absurd (let never : ⊥ = omega arith in never)
unit_small map order (a ∷ []) cs h s l = absurd (let never : ⊥ = omega arith in never)
unit_small map order (a ∷ b ∷ []) cs h s l = absurd (let never : ⊥ = omega arith in never)
unit_small map order (a ∷ b ∷ c ∷ []) cs h s l = absurd (let never : ⊥ = omega arith in never)
unit_small map order (a ∷ b ∷ c ∷ d ∷ x ∷ bs) cs h s l = absurd (let never : ⊥ = omega arith in never)
unit_small map order (a ∷ b ∷ c ∷ d ∷ []) [] h s l = absurd h
unit_small map order (a ∷ b ∷ c ∷ d ∷ []) (e ∷ []) h s l = absurd h.1
unit_small map order (a ∷ b ∷ c ∷ d ∷ []) (e ∷ f ∷ []) h s l = absurd h.1.1
unit_small map order (a ∷ b ∷ c ∷ d ∷ []) (e ∷ f ∷ g ∷ []) h s l = absurd h.1.1.1
unit_small map Big (a ∷ b ∷ c ∷ d ∷ []) (e ∷ f ∷ g ∷ i ∷ cs) h s l = let p = less a e (byte_covers map a e h.0) (small_byte e s.0) in let q = less b f (byte_covers map b f h.1.0) (small_byte f s.1.0) in let r = less c g (byte_covers map c g h.1.1.0) (small_byte g s.1.1.0) in let t = less d i (byte_covers map d i h.1.1.1.0) (small_byte i s.1.1.1.0) in omega (arith, p, q, r, t)
unit_small map Little (a ∷ b ∷ c ∷ d ∷ []) (e ∷ f ∷ g ∷ i ∷ cs) h s l = let p = less a e (byte_covers map a e h.0) (small_byte e s.0) in let q = less b f (byte_covers map b f h.1.0) (small_byte f s.1.0) in let r = less c g (byte_covers map c g h.1.1.0) (small_byte g s.1.1.0) in let t = less d i (byte_covers map d i h.1.1.1.0) (small_byte i s.1.1.1.0) in omega (arith, p, q, r, t)
