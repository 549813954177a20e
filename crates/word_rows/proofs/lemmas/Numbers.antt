-- Arithmetic, conversions and constants.
use Rattle.std.specs.Prelude.{◌≡◌, ℕ, ◌%◌, ◌^◌, ◌&&◌, ◌||◌, Bool, true, false, Option, Some, None, [], ◌∷◌}
use Rattle.std.proofs.Common.{refl, sym, ap, subst, ◌∙◌}
use Rattle.std.proofs.lemmas.Nat.{and_mask, mod_below, pow_pos}
use Rattle.std.proofs.Math.Nat.{mod-eq_of_lt}
use Rattle.lcc_base.specs.declared.cause.Cause.{Cause}
use Rattle.lcc_base.specs.declared.cause.Cause.TheVariants.{ZeroDivisor, DivideOverflow, ShiftCount, PointerNumber}
use Rattle.objects.specs.declared.operators.Binary.{Binary}
use Rattle.objects.specs.declared.operators.Binary.TheVariants as binary
use Rattle.objects.specs.declared.value.Value.{Value}
use Rattle.objects.specs.declared.value.Value.TheVariants.{Number, Pointer, Function}
use Rattle.objects.specs.Accesses.{number_or_zero}
use Rattle.objects.specs.Arithmetic.{unary_word, binary_word, binary_cause, word_cause, is_division, is_shift}
use Rattle.objects.specs.Causes.{first_cause, unless, is_no_number, is_zero, overflows, is_no_count}
use Rattle.objects.specs.Conversions.{extended, sign_extended}
use Rattle.forests.specs.Words.{Word, Plain, Label, Partly, number_of, narrow, low_number}
use Rattle.forests.specs.Accesses.{defined}
use Rattle.forests.specs.Addresses.{plain}
use Rattle.forests.specs.Numbers.{extended_by, narrowed_by, of_two}
use Rattle.memory_map.specs.Maps.{Map, IsWord}
use Rattle.memory_map.proofs.lemmas.Through.{low_is, narrow_is}
use Rattle.word_rows.specs.Numbers.{OneIsSo, TwoAreSo, LowAreWidened, LowAreKept, ConstantsAre, NarrowConstantsAre}

pub none_some : {A : Type 0} (x : A) → None ≡ Some x → ⊥
none_some x e = cc

pub some_is : {A : Type 0} (x y : A) → Some x ≡ Some y → x ≡ y
some_is x y e = cc

-- a word that is this number
pub number_word : (map : Map) (u : Word) (n m : ℕ) → Some (Plain (Number n)) ≡ Some u → m ≡ n → IsWord map u m
number_word map u n m e f = subst (λ (w : Word). IsWord map w m) (some_is (Plain (Number n)) u e) f

pub one_is : OneIsSo
one_is map op (Plain (Number n)) u x is e = number_word map u (unary_word op n) (unary_word op x) e (ap (unary_word op) is)
one_is map op (Plain (Pointer object offset)) u x is e = absurd (none_some u e)
one_is map op (Plain (Function f)) u x is e = absurd (none_some u e)
one_is map op (Label f l) u x is e = absurd (none_some u e)
one_is map op (Partly mask bits) u x is e = absurd (none_some u e)

-- ---- two numbers

pub plain_of : (c : Option Cause) (v : Value) (u : Word) → plain (defined (unless c v)) ≡ Some u → (c ≡ None) × (Some (Plain v) ≡ Some u)
plain_of None v u e = (refl, e)
plain_of (Some c) v u e = absurd (none_some u e)

same_cause : (signed : Bool) (op : Binary) (x y : ℕ) → binary_cause signed op (Number x) (Number y) ≡ word_cause signed op x y
same_cause signed binary.Add x y = refl
same_cause signed binary.Subtract x y = refl
same_cause signed binary.Multiply x y = refl
same_cause signed binary.Divide x y = refl
same_cause signed binary.Remainder x y = refl
same_cause signed binary.ShiftLeft x y = refl
same_cause signed binary.ShiftRight x y = refl
same_cause signed binary.And x y = refl
same_cause signed binary.Or x y = refl
same_cause signed binary.Xor x y = refl

last_stands : (a b c : Bool) (x y z w : Cause) → first_cause ((a, x) ∷ (b, y) ∷ (c, z) ∷ (true, w) ∷ []) ≡ None → ⊥
last_stands true b c x y z w e = none_some x (sym e)
last_stands false true c x y z w e = none_some y (sym e)
last_stands false false true x y z w e = none_some z (sym e)
last_stands false false false x y z w e = none_some w (sym e)

-- neither operand is a pointer or function
no_left : (signed : Bool) (op : Binary) (v w : Value) (u : Word) → is_no_number v ≡ true → of_two signed op (Plain v) (Plain w) ≡ Some u → ⊥
no_left signed op v w u number e =
    let none = (plain_of (binary_cause signed op v w) (Number (binary_word signed op (number_or_zero v) (number_or_zero w))) u e).0 in
    last_stands (is_division op && is_zero w) (is_division op && (signed && overflows v w)) (is_shift op && is_no_count w) ZeroDivisor DivideOverflow ShiftCount PointerNumber
    (ap (λ (b : Bool). first_cause ((is_division op && is_zero w, ZeroDivisor) ∷ (is_division op && (signed && overflows v w), DivideOverflow) ∷ (is_shift op && is_no_count w, ShiftCount) ∷ (b || is_no_number w, PointerNumber) ∷ [])) (sym number) ∙ none)

no_right : (signed : Bool) (op : Binary) (n : ℕ) (w : Value) (u : Word) → is_no_number w ≡ true → of_two signed op (Plain (Number n)) (Plain w) ≡ Some u → ⊥
no_right signed op n w u number e =
    let v = Number n in
    let none = (plain_of (binary_cause signed op v w) (Number (binary_word signed op (number_or_zero v) (number_or_zero w))) u e).0 in
    last_stands (is_division op && is_zero w) (is_division op && (signed && overflows v w)) (is_shift op && is_no_count w) ZeroDivisor DivideOverflow ShiftCount PointerNumber
    (ap (λ (b : Bool). first_cause ((is_division op && is_zero w, ZeroDivisor) ∷ (is_division op && (signed && overflows v w), DivideOverflow) ∷ (is_shift op && is_no_count w, ShiftCount) ∷ (b, PointerNumber) ∷ [])) (sym number) ∙ none)

pub two_are : TwoAreSo
two_are map signed op (Plain (Number p)) (Plain (Number q)) u x y is it e =
    let r = plain_of (binary_cause signed op (Number p) (Number q)) (Number (binary_word signed op p q)) u e in
    let left : x ≡ p = is in
    let right : y ≡ q = it in (
      ap (λ (n : ℕ). word_cause signed op n y) left ∙ ap (λ (n : ℕ). word_cause signed op p n) right ∙ sym (same_cause signed op p q) ∙ r.0,
      number_word map u (binary_word signed op p q) (binary_word signed op x y) r.1 (ap (λ (n : ℕ). binary_word signed op n y) left ∙ ap (λ (n : ℕ). binary_word signed op p n) right),
    )
two_are map signed op (Plain (Number p)) (Plain (Pointer object offset)) u x y is it e = absurd (no_right signed op p (Pointer object offset) u refl e)
two_are map signed op (Plain (Number p)) (Plain (Function f)) u x y is it e = absurd (no_right signed op p (Function f) u refl e)
two_are map signed op (Plain (Pointer object offset)) (Plain w) u x y is it e = absurd (no_left signed op (Pointer object offset) w u refl e)
two_are map signed op (Plain (Function f)) (Plain w) u x y is it e = absurd (no_left signed op (Function f) w u refl e)
two_are map signed op (Plain v) (Label f l) u x y is it e = absurd (none_some u e)
two_are map signed op (Plain v) (Partly mask bits) u x y is it e = absurd (none_some u e)
two_are map signed op (Label f l) w u x y is it e = absurd (none_some u e)
two_are map signed op (Partly mask bits) w u x y is it e = absurd (none_some u e)

-- ---- low bits

extended_low : (signed : Bool) (bits n m : ℕ) → n % 2 ^ bits ≡ m → extended signed bits n ≡ extended signed bits m
extended_low signed bits n m e =
    let low : n % 2 ^ bits ≡ m % 2 ^ bits = sym (mod-eq_of_lt (mod_below n (2 ^ bits) (pow_pos bits))) ∙ ap (λ (k : ℕ). k % 2 ^ bits) e in
    by signed low
  where
    by : (signed : Bool) → n % 2 ^ bits ≡ m % 2 ^ bits → extended signed bits n ≡ extended signed bits m
    by true low = ap (λ (k : ℕ). sign_extended bits k) low
    by false low = low

widened_by : (map : Map) (signed : Bool) (bits n : ℕ) (m : Option ℕ) (u : Word) → ((k : ℕ) → m ≡ Some k → n % 2 ^ bits ≡ k) → extended_by signed bits m ≡ Some u → IsWord map u (extended signed bits n)
widened_by map signed bits n None u low e = absurd (none_some u e)
widened_by map signed bits n (Some k) u low e = number_word map u (extended signed bits k) (extended signed bits n) e (extended_low signed bits n k (low k refl))

pub widened_is : LowAreWidened
widened_is map signed bits w u n is e = widened_by map signed bits n (low_number bits w) u (λ k f. low_is map w n k bits is f) e

kept_by : (map : Map) (bits n m : ℕ) (k : Option ℕ) (u : Word) → ((i : ℕ) → k ≡ Some i → n % 2 ^ bits ≡ i) → m % 2 ^ bits ≡ n % 2 ^ bits → narrowed_by bits k ≡ Some u → IsWord map u m
kept_by map bits n m None u low same e = absurd (none_some u e)
kept_by map bits n m (Some k) u low same e = subst (λ (w : Word). IsWord map w m) (some_is (narrow bits k) u e) (narrow_is map bits k m (same ∙ low k refl))

pub kept_is : LowAreKept
kept_is map bits w u n m is e same = kept_by map bits n m (low_number bits w) u (λ k f. low_is map w n k bits is f) same e

-- ---- constants

pub constant_is : ConstantsAre
constant_is map z u e = number_word map u (number_of z) (number_of z) e refl

pub narrow_constant_is : NarrowConstantsAre
narrow_constant_is map bits z u m e same =
    let low : m % 2 ^ bits ≡ number_of z % 2 ^ bits = same in
    subst (λ (w : Word). IsWord map w m) (some_is (narrow bits (number_of z)) u e) (and_mask m bits ∙ low)
