-- Conversions to integer types.
use Rattle.std.specs.Prelude.{◌≡◌, ◌<◌, ℕ, ◌+◌, ◌-◌, ◌%◌, ◌^◌, nat_lt, Bool, true, false, [], ◌∷◌, Ok, if◌then◌else◌}
use Rattle.std.proofs.Common.{refl, sym, ap, subst, ◌∙◌, arith}
use Rattle.std.proofs.Math.Nat.{mod-eq_of_lt}
use Rattle.lcc_base.specs.declared.cause.Cause.TheVariants.{PointerNumber}
use Rattle.objects.specs.declared.value.Value.{Value}
use Rattle.objects.specs.declared.value.Value.TheVariants.{Number, Pointer, Function}
use Rattle.objects.specs.declared.width.Scalar.{Scalar}
use Rattle.objects.specs.declared.width.Width.{Width}
use Rattle.objects.specs.declared.width.Width.TheVariants as width
use Rattle.objects.proofs.lemmas.AccessLaws.{first_not, unless_none, unless_same}
use Rattle.objects.proofs.lemmas.BitLaws.{low_below}
use Rattle.objects.specs.Causes.{first_cause, is_no_number, is_narrowed}
use Rattle.objects.specs.Conversions.{sign_extended, extended, as_type, converted}
use Rattle.objects.specs.Values.{bits_in}
use Rattle.op_forest.specs.declared.suffix.Suffix.{Suffix}
use Rattle.op_forest.specs.declared.suffix.Suffix.TheVariants.{C, S, I, U, P, B, V}
use Rattle.forests.specs.Actions.{Gave, gave}
use Rattle.forests.specs.Numbers.{narrowed}
use Rattle.forests.specs.Words.{Word, Plain, IsWord, narrow}
use Rattle.c_match.specs.Ranges.{Map}
use Rattle.c_match.specs.Values.{IsValue}
use Rattle.c_rows_agree.specs.Templates.{Template, Scene, Gives}
use Rattle.c_rows_agree.specs.Typed.{Typed, Holds}
use Rattle.c_rows_agree.specs.Integers.{narrow_from, integer_from, converted_by, converted_to}

-- ---- low bits

pub low_twice : (n k : ℕ) → n % 2 ^ k % 2 ^ k ≡ n % 2 ^ k
low_twice n k = mod-eq_of_lt (low_below n k)

low_four_times : (n k : ℕ) → n % 2 ^ k % 2 ^ k % 2 ^ k % 2 ^ k ≡ n % 2 ^ k
low_four_times n k = low_twice (n % 2 ^ k % 2 ^ k) k ∙ low_twice (n % 2 ^ k) k ∙ low_twice n k

-- the low bits of a word, as a char or a short has them
pub c_gives : (k : Scene) (s : Suffix) (t : Template) (w : Word) (n : ℕ) → Gives k t w → w ≡ Plain (Number n) → Gives k (narrow_from s C t) (narrow 8 (n % 2 ^ 8))
c_gives k C t w n h e = (w, h, ap (λ (x : Word). gave (narrowed 8 x)) e)
c_gives k S t w n h e = (w, h, ap (λ (x : Word). gave (narrowed 8 x)) e)
c_gives k I t w n h e = (w, h, ap (λ (x : Word). gave (narrowed 8 x)) e)
c_gives k B t w n h e = (w, h, ap (λ (x : Word). gave (narrowed 8 x)) e)
c_gives k V t w n h e = (w, h, ap (λ (x : Word). gave (narrowed 8 x)) e)
c_gives k U t w n h e = (w, h, ap (λ (x : Word). gave (narrowed 8 x)) e)
c_gives k P t w n h e = (w, (w, h, refl), ap (λ (x : Word). gave (narrowed 8 x)) e)

pub s_gives : (k : Scene) (s : Suffix) (t : Template) (w : Word) (n : ℕ) → Gives k t w → w ≡ Plain (Number n) → Gives k (narrow_from s S t) (narrow 16 (n % 2 ^ 16))
s_gives k C t w n h e = (w, h, ap (λ (x : Word). gave (narrowed 16 x)) e)
s_gives k S t w n h e = (w, h, ap (λ (x : Word). gave (narrowed 16 x)) e)
s_gives k I t w n h e = (w, h, ap (λ (x : Word). gave (narrowed 16 x)) e)
s_gives k B t w n h e = (w, h, ap (λ (x : Word). gave (narrowed 16 x)) e)
s_gives k V t w n h e = (w, h, ap (λ (x : Word). gave (narrowed 16 x)) e)
s_gives k U t w n h e = (w, h, ap (λ (x : Word). gave (narrowed 16 x)) e)
s_gives k P t w n h e = (w, (w, h, refl), ap (λ (x : Word). gave (narrowed 16 x)) e)

-- and the number that they are
extended_low : (signed : Bool) (k n : ℕ) → extended signed k (n % 2 ^ k % 2 ^ k % 2 ^ k) ≡ extended signed k n
extended_low signed k n = ap (λ (x : ℕ). if signed then sign_extended k x else x) (low_four_times n k)

pub low_extended : (signed : Bool) (k n : ℕ) → extended signed k (n % 2 ^ k) ≡ extended signed k n
low_extended signed k n = ap (λ (x : ℕ). if signed then sign_extended k x else x) (low_twice n k)

number_by : (w : Width) (signed : Bool) (n : ℕ) → Plain (Number (extended signed (bits_in w) (n % 2 ^ bits_in w % 2 ^ bits_in w % 2 ^ bits_in w))) ≡ Plain (Number (extended signed (bits_in w) n))
number_by w signed n = ap (λ (x : ℕ). Plain (Number x)) (extended_low signed (bits_in w) n)

-- ---- numbers and words

pub number_of_value : (v : Value) → is_no_number v ≡ false → (n : ℕ) × (v ≡ Number n)
number_of_value (Number n) e = (n, refl)
number_of_value (Pointer object offset) e = absurd (let never : ⊥ = cc in never)
number_of_value (Function f) e = absurd (let never : ⊥ = cc in never)

-- a value that is a number stands as it
pub word_of_number : (map : Map) (v : Value) (n : ℕ) (w : Word) → v ≡ Number n → IsValue map v w → w ≡ Plain (Number n)
word_of_number map v n w e h = subst (λ (x : Value). IsValue map x w) e h

whole_by : (b : Bool) (n : ℕ) → (if b then n else n + (2 ^ 32 - 2 ^ 32)) ≡ n
whole_by true n = refl
whole_by false n = omega arith

-- a number of 32 bits is itself
pub whole : (signed : Bool) (n : ℕ) → n < 2 ^ 32 → extended signed 32 n ≡ n
whole true n h = ap (λ (x : ℕ). sign_extended 32 x) (mod-eq_of_lt h) ∙ whole_by (nat_lt n (2 ^ 31)) n
whole false n h = mod-eq_of_lt h

whole_value : (signed : Bool) (v : Value) → IsWord (Plain v) → as_type (record { width = width.Four; signed = signed }) v ≡ v
whole_value signed (Number n) h = ap Number (whole signed n h)
whole_value signed (Pointer object offset) h = refl
whole_value signed (Function f) h = refl

-- ---- conversions

integer_holds : (k : Scene) (s : Suffix) (t : Template) (w : Word) → Gives k t w → Gives k (integer_from s t).tree w
integer_holds k P t w h = (w, h, refl)
integer_holds k C t w h = h
integer_holds k S t w h = h
integer_holds k I t w h = h
integer_holds k U t w h = h
integer_holds k B t w h = h
integer_holds k V t w h = h

number_converted : (k : Scene) (w : Width) (signed : Bool) (a : Typed) (n : ℕ) → n < 2 ^ 32 → Holds k a (Number n) → Holds k (converted_by w signed a) (Number (extended signed (bits_in w) n))
number_converted k width.One true a n lt h = record { word = Plain (Number (extended true 8 n)); gives = (narrow 8 (n % 2 ^ 8), c_gives k a.suffix a.tree h.word n h.gives h.is, ap Gave (number_by width.One true n)); is = refl }
number_converted k width.One false a n lt h = record { word = Plain (Number (extended false 8 n)); gives = (narrow 8 (n % 2 ^ 8), c_gives k a.suffix a.tree h.word n h.gives h.is, ap Gave (number_by width.One false n)); is = refl }
number_converted k width.Two true a n lt h = record { word = Plain (Number (extended true 16 n)); gives = (narrow 16 (n % 2 ^ 16), s_gives k a.suffix a.tree h.word n h.gives h.is, ap Gave (number_by width.Two true n)); is = refl }
number_converted k width.Two false a n lt h = record { word = Plain (Number (extended false 16 n)); gives = (narrow 16 (n % 2 ^ 16), s_gives k a.suffix a.tree h.word n h.gives h.is, ap Gave (number_by width.Two false n)); is = refl }
number_converted k width.Four signed a n lt h = record {
  word = Plain (Number (extended signed 32 n));
  gives = subst (λ (x : Word). Gives k (integer_from a.suffix a.tree).tree x) (h.is ∙ ap (λ (x : ℕ). Plain (Number x)) (sym (whole signed n lt))) (integer_holds k a.suffix a.tree h.word h.gives);
  is = refl;
}

-- a number that is kept as one of a type
pub type_holds : (k : Scene) (s : Scalar) (a : Typed) (n : ℕ) → n < 2 ^ 32 → Holds k a (Number n) → Holds k (converted_to s a) (as_type s (Number n))
type_holds k s a n lt h = number_converted k s.width s.signed a n lt h

converted_value : (k : Scene) (w : Width) (signed : Bool) (a : Typed) (v u : Value) → IsWord (Plain v) → Holds k a v → is_narrowed w v ≡ false → as_type (record { width = w; signed = signed }) v ≡ u → Holds k (converted_by w signed a) u
converted_value k w signed a (Number n) u word h e is = subst (λ (x : Value). Holds k (converted_by w signed a) x) is (number_converted k w signed a n word h)
converted_value k width.One signed a (Pointer object offset) u word h e is = absurd (let never : ⊥ = cc in never)
converted_value k width.Two signed a (Pointer object offset) u word h e is = absurd (let never : ⊥ = cc in never)
converted_value k width.Four signed a (Pointer object offset) u word h e is =
    subst (λ (x : Value). Holds k (converted_by width.Four signed a) x) is
    (record { word = h.word; gives = integer_holds k a.suffix a.tree h.word h.gives; is = h.is })
converted_value k width.One signed a (Function f) u word h e is = absurd (let never : ⊥ = cc in never)
converted_value k width.Two signed a (Function f) u word h e is = absurd (let never : ⊥ = cc in never)
converted_value k width.Four signed a (Function f) u word h e is =
    subst (λ (x : Value). Holds k (converted_by width.Four signed a) x) is
    (record { word = h.word; gives = integer_holds k a.suffix a.tree h.word h.gives; is = h.is })

pub conversion_holds : (k : Scene) (s : Scalar) (a : Typed) (v u : Value) → IsWord (Plain v) → Holds k a v → converted s v ≡ Ok u → Holds k (converted_to s a) u
conversion_holds k s a v u word h e =
    let cause = first_cause ((is_narrowed s.width v, PointerNumber) ∷ []) in
    converted_value k s.width s.signed a v u word h
    (first_not (is_narrowed s.width v) PointerNumber [] (unless_none cause (as_type s v) u e))
    (unless_same cause (as_type s v) u e)
