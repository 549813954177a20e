-- What C reads as a scalar is what forests read.
use Rattle.std.specs.Prelude.{◌≡◌, ℕ, ◌%◌, ◌^◌, ◌&&◌, Bool, true, false, Option, Some, None, is_none, Result, Ok, List, [], ◌∷◌, length, map as mapped, if◌then◌else◌}
use Rattle.std.proofs.Common.{refl, ap, sym, subst, inl, inr, ◌∙◌, arith}
use Rattle.lcc_base.specs.declared.order.Order.{Order}
use Rattle.lcc_base.specs.declared.order.Order.TheVariants.{Big, Little}
use Rattle.lcc_base.specs.declared.cause.Cause.{Cause}
use Rattle.lcc_base.specs.declared.cause.Cause.TheVariants.{Unknown, PointerBytes}
use Rattle.lcc_base.specs.NumberIn.{number_in}
use Rattle.objects.specs.declared.byte.Byte.{Byte}
use Rattle.objects.specs.declared.byte.Byte.TheVariants.{Bits, Part}
use Rattle.objects.specs.declared.value.Value.{Value}
use Rattle.objects.specs.declared.value.Value.TheVariants.{Number}
use Rattle.objects.specs.declared.width.Width.{Width}
use Rattle.objects.specs.declared.width.Width.TheVariants.{One, Two, Four}
use Rattle.objects.specs.declared.width.Scalar.{Scalar}
use Rattle.objects.specs.Values.{bytes_in, bits_in, same_whole}
use Rattle.objects.specs.Bytes.{known_bytes, value_of, has_unknown_bits, has_parts, by_weight, is_part_of, whole_of, number_of_bytes}
use Rattle.objects.specs.Causes.{first_cause, unless, breaks_whole}
use Rattle.objects.specs.Conversions.{sign_extended, extended, as_scalar, as_type}
use Rattle.objects.specs.Copies.{or_cause}
use Rattle.objects.specs.Scalars.{scalar_cause, scalar_value, scalar_of, whole_or}
use Rattle.objects.proofs.lemmas.AccessLaws.{first_not, first_rest, unless_none, unless_same}
use Rattle.objects.specs.Accesses.{read_cause, if_none, read}
use Rattle.objects.specs.Accesses as c
use Rattle.objects.specs.Objects.{Object as Old}
use Rattle.forests.specs.Accesses.{defined, word_read, number_cause, number_read}
use Rattle.forests.specs.Numbers.{widened}
use Rattle.forests.specs.Objects.{Object, bytes_through}
use Rattle.forests.specs.Sound.{AreSoundObjects}
use Rattle.forests.proofs.lemmas.SoundBytes.{bytes_through_sound}
use Rattle.forests.specs.WordBytes.{word_in}
use Rattle.forests.specs.Words.{Word, Plain, narrow}
use Rattle.c_match.specs.Ranges.{Map}
use Rattle.c_match.specs.Values.{IsValue}
use Rattle.c_match.specs.Held.{AreHeld, IsAlignment}
use Rattle.c_match.proofs.lemmas.Scalars.{known_both, word_is_read}
use Rattle.c_match_objects.proofs.lemmas.Reached.{IsAccess, there, access, goes_there, bytes_reached, length_reached}

pub if_none_none : {A : Type 0} → (c : Option Cause) (r : Result A Cause) (b : A) → if_none c r ≡ Ok b → c ≡ None
if_none_none None r b e = refl
if_none_none (Some c) r b e = absurd (let never : ⊥ = cc in never)

pub if_none_same : {A : Type 0} → (c : Option Cause) (r : Result A Cause) (b : A) → if_none c r ≡ Ok b → r ≡ Ok b
if_none_same None r b e = e
if_none_same (Some c) r b e = absurd (let never : ⊥ = cc in never)

pub aligned_by_width : (width : Width) → IsAlignment (bytes_in width)
aligned_by_width One = inl refl
aligned_by_width Two = inr (inl refl)
aligned_by_width Four = inr (inr refl)

-- ---- words

-- the word there
pub word_there : (map : Map) (old : List Old) (objects : List Object) (order : Order) (p : Value) (w : Word) → (a : IsAccess map old objects p w 4 4) → word_read order objects w ≡ Some (word_in order (bytes_through objects (there a.reached) 4))
word_there map old objects order p w a =
    let word = word_in order (bytes_through objects (there a.reached) 4) in
    let first : word_read order objects w ≡ word_read order objects (Plain (there a.reached)) = ap (λ (x : Word). word_read order objects x) a.reached.word in
    let second : word_read order objects (Plain (there a.reached)) ≡ Some word = ap (λ (x : Option Cause). defined (unless x word)) (goes_there map old objects p w 4 4 (inr (inr refl)) a) in
    first ∙ second

word_by : (map : Map) (old : List Old) (objects : List Object) (order : Order) (signed : Bool) (p v : Value) (w : Word) → AreHeld map old objects → AreSoundObjects objects → IsValue map p w → read order (record { width = Four; signed = signed }) old p ≡ Ok v → (u : Word) × (word_read order objects w ≡ Some u) × IsValue map v u
word_by map old objects order signed p v w h sound is e =
    let s : Scalar = record { width = Four; signed = signed } in
    let bs = c.bytes_through old p 4 in
    let none = if_none_none (read_cause old p 4 4) (scalar_of order s bs) v e in
    let it = if_none_same (read_cause old p 4 4) (scalar_of order s bs) v e in
    let a = access map old objects p w 4 4 h is none in
    let cs = bytes_through objects (there a.reached) 4 in
    let long = length_reached map old objects p w 4 4 a in
    let known = unless_none (scalar_cause order bs) (as_type s (scalar_value order bs)) v it in
    let value = unless_same (scalar_cause order bs) (as_type s (scalar_value order bs)) v it in
    let stands = word_is_read map order s bs cs (bytes_reached map old objects p w 4 a.reached) (bytes_through_sound objects (there a.reached) 4 sound) long.0 long.1 refl known in
    (word_in order cs, word_there map old objects order p w a, subst (λ (x : Value). IsValue map x (word_in order cs)) value stands)

pub word_reads : (map : Map) (old : List Old) (objects : List Object) (order : Order) (s : Scalar) (p v : Value) (w : Word) → AreHeld map old objects → AreSoundObjects objects → IsValue map p w → s.width ≡ Four → read order s old p ≡ Ok v → (u : Word) × (word_read order objects w ≡ Some u) × IsValue map v u
word_reads map old objects order s p v w h sound is wide e = word_by map old objects order s.signed p v w h sound is (subst (λ (width : Width). read order (record { width = width; signed = s.signed }) old p ≡ Ok v) wide e)

-- ---- narrower numbers

and_false : (b : Bool) → (b && false) ≡ false
and_false true = refl
and_false false = refl

and_true : (a : Bool) → (a && true) ≡ false → a ≡ false
and_true true e = e
and_true false e = refl

-- fewer than four bytes are no pointer or function
one_whole : (b : Byte Value) → whole_of same_whole (b ∷ []) ≡ None
one_whole (Bits known value) = refl
one_whole (Part v k) = ap (λ (t : Bool). if t then Some v else None) (and_false (is_part_of same_whole v 0 (Part v k)))

two_whole : (b d : Byte Value) → whole_of same_whole (b ∷ d ∷ []) ≡ None
two_whole (Bits known value) d = refl
two_whole (Part v k) d =
    ap (λ (t : Bool). if is_part_of same_whole v 0 (Part v k) && t then Some v else None) (and_false (is_part_of same_whole v 1 d))
    ∙ ap (λ (t : Bool). if t then Some v else None) (and_false (is_part_of same_whole v 0 (Part v k)))

few_whole : (order : Order) (width : Width) (bs : List (Byte Value)) → (width ≡ Four → ⊥) → length bs ≡ bytes_in width → whole_of same_whole (by_weight order bs) ≡ None
few_whole order Four bs h e = absurd (h refl)
few_whole Big One (b ∷ []) h e = one_whole b
few_whole Little One (b ∷ []) h e = one_whole b
few_whole order One [] h e = absurd (let never : ⊥ = omega (arith, e) in never)
few_whole order One (b ∷ d ∷ bs) h e = absurd (let never : ⊥ = omega (arith, e) in never)
few_whole Big Two (b ∷ d ∷ []) h e = two_whole b d
few_whole Little Two (b ∷ d ∷ []) h e = two_whole d b
few_whole order Two [] h e = absurd (let never : ⊥ = omega (arith, e) in never)
few_whole order Two (b ∷ []) h e = absurd (let never : ⊥ = omega (arith, e) in never)
few_whole order Two (b ∷ d ∷ f ∷ bs) h e = absurd (let never : ⊥ = omega (arith, e) in never)

known_unknown : (A : Type 0) (vs : List ℕ) → has_unknown_bits (known_bytes {V = A} vs) ≡ false
known_unknown A [] = refl
known_unknown A (v ∷ vs) = known_unknown A vs

known_parts : (A : Type 0) (vs : List ℕ) → has_parts (known_bytes {V = A} vs) ≡ false
known_parts A [] = refl
known_parts A (v ∷ vs) = known_parts A vs

known_cause : (vs : List ℕ) → number_cause (known_bytes vs) ≡ None
known_cause vs =
    ap (λ (b : Bool). first_cause ((b, Unknown) ∷ (has_parts (known_bytes {V = Word} vs), PointerBytes) ∷ [])) (known_unknown Word vs)
    ∙ ap (λ (b : Bool). first_cause ((b, PointerBytes) ∷ [])) (known_parts Word vs)

values_known : (A : Type 0) (vs : List ℕ) → mapped value_of (known_bytes {V = A} vs) ≡ vs
values_known A [] = refl
values_known A (v ∷ vs) = ap (λ xs. v ∷ xs) (values_known A vs)

-- a number's low bits extended are it extended
low_widened : (signed : Bool) (width : Width) (n : ℕ) → (width ≡ Four → ⊥) → widened signed (bits_in width) (narrow (bits_in width) n) ≡ Some (Plain (Number (extended signed (bits_in width) n)))
low_widened signed Four n h = absurd (h refl)
low_widened signed One n h = ap (λ (m : ℕ). Some (Plain (Number (if signed then sign_extended 8 m else m)))) (let e : n % 2 ^ 8 % 2 ^ 8 % 2 ^ 8 ≡ n % 2 ^ 8 = omega arith in e)
low_widened signed Two n h = ap (λ (m : ℕ). Some (Plain (Number (if signed then sign_extended 16 m else m)))) (let e : n % 2 ^ 16 % 2 ^ 16 % 2 ^ 16 ≡ n % 2 ^ 16 = omega arith in e)

pub number_by : (map : Map) (old : List Old) (objects : List Object) (order : Order) (s : Scalar) (p v : Value) (w : Word) → AreHeld map old objects → AreSoundObjects objects → IsValue map p w → (s.width ≡ Four → ⊥) → read order s old p ≡ Ok v → (u x : Word) × (number_read order s.width objects w ≡ Some u) × (widened s.signed (bits_in s.width) u ≡ Some x) × IsValue map v x
number_by map old objects order s p v w h sound is few e =
    let width = s.width in
    let size = bytes_in width in
    let bits = bits_in width in
    let bs = c.bytes_through old p size in
    let none = if_none_none (read_cause old p size size) (scalar_of order s bs) v e in
    let it = if_none_same (read_cause old p size size) (scalar_of order s bs) v e in
    let a = access map old objects p w size size h is none in
    let cs = bytes_through objects (there a.reached) size in
    let long = length_reached map old objects p w size size a in
    let known = unless_none (scalar_cause order bs) (as_type s (scalar_value order bs)) v it in
    let value = unless_same (scalar_cause order bs) (as_type s (scalar_value order bs)) v it in
    let unknown = first_not (has_unknown_bits bs) Unknown ((breaks_whole same_whole order bs, PointerBytes) ∷ []) known in
    let breaks = first_not (breaks_whole same_whole order bs) PointerBytes [] (first_rest (has_unknown_bits bs) Unknown ((breaks_whole same_whole order bs, PointerBytes) ∷ []) known) in
    let whole = few_whole order width bs few long.0 in
    let parts = and_true (has_parts bs) (sym (ap (λ (o : Option Value). has_parts bs && is_none o) whole) ∙ breaks) in
    let both = known_both map bs cs (bytes_reached map old objects p w size a.reached) (bytes_through_sound objects (there a.reached) size sound) (long.0 ∙ sym long.1) unknown parts in
    let vs = both.0 in
    let n = number_in order vs in
    let of_c : number_of_bytes order bs ≡ n = ap (λ (x : List (Byte Value)). number_of_bytes order x) both.1 ∙ ap (number_in order) (values_known Value vs) in
    let of_f : number_of_bytes order cs ≡ n = ap (λ (x : List (Byte Word)). number_of_bytes order x) both.2 ∙ ap (number_in order) (values_known Word vs) in
    let scalar : as_type s (scalar_value order bs) ≡ Number (as_scalar s n) = ap (λ (o : Option Value). as_type s (whole_or o (number_of_bytes order bs))) whole ∙ ap (λ (x : ℕ). Number (as_scalar s x)) of_c in
    let reads : number_read order width objects w ≡ Some (narrow bits n) =
    ap (λ (x : Word). number_read order width objects x) a.reached.word
    ∙ ap (λ (x : Option Cause). defined (unless (or_cause x (number_cause cs)) (narrow bits (number_of_bytes order cs)))) (goes_there map old objects p w size size (aligned_by_width width) a)
    ∙ ap (λ (x : List (Byte Word)). defined (unless (number_cause x) (narrow bits (number_of_bytes order cs)))) both.2
    ∙ ap (λ (x : Option Cause). defined (unless x (narrow bits (number_of_bytes order cs)))) (known_cause vs)
    ∙ ap (λ (x : ℕ). Some (narrow bits x)) of_f in
    (narrow bits n, Plain (Number (as_scalar s n)), reads, low_widened s.signed width n few, subst (λ (x : Value). IsValue map x (Plain (Number (as_scalar s n)))) (sym scalar ∙ value) refl)
