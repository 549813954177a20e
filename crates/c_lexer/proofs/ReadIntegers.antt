-- Integer constants, decimal with the suffix of their type, are read as themselves before a blank and at the end.
use Rattle.std.proofs.Common.{◌≡◌, ◌+◌, ◌*◌, ◌≤◌, ◌<◌, ◌^◌, ℕ, zero, suc, Bool, true, false, Some, None, Ok, List, [], ◌∷◌, ◌++◌, length, get_or, refl, sym, ap, ◌∙◌, subst, arith, append_assoc}
use Rattle.std.specs.Prelude.{nat_le, ◌==◌, ◌/◌, ◌%◌, decimal}
use Rattle.std.specs.Char.{is_ascii_digit}
use Rattle.std.proofs.lemmas.Bool.Decides.{nat_tests}
use Rattle.std.proofs.lemmas.Fmt.{decimal_by_steps, decimal_digit, first_decimal, decimal_nonempty}
use Rattle.lcc_text.specs.declared.class.Class.TheVariants.{Digit, Name as NameBytes}
use Rattle.lcc_text.specs.Classes.{in_class, AllIn, StopsIn}
use Rattle.c_ast.specs.declared.class.Class.TheVariants as class
use Rattle.c_ast.specs.declared.class.IntKind.{IntKind}
use Rattle.c_ast.specs.declared.class.IntKind.TheVariants.{Int, Unsigned, Long, UnsignedLong}
use Rattle.c_ast.specs.Lexemes
use Rattle.c_ast.specs.Printed.{kind_text}
use Rattle.c_lexer.specs.declared.class.LexClass.TheVariants.{Constant}
use Rattle.c_lexer.specs.declared.place.Place.{Place}
use Rattle.c_lexer.specs.declared.start.Start.TheVariants as start
use Rattle.c_lexer.specs.Classes.{in_lex}
use Rattle.c_lexer.specs.Constants.{is_floating, class_or_fault}
use Rattle.c_lexer.specs.Gaps.{behind_gap}
use Rattle.c_lexer.specs.Integers.{greatest, suffix_of, integer_class, integer_in, integer_of}
use Rattle.c_lexer.specs.Numbers.{digit_value, value_behind, in_word, number_in}
use Rattle.c_lexer.specs.Runs.{run, behind}
use Rattle.c_lexer.specs.Starts.{start_of}
use Rattle.c_lexer.specs.Readings.{Reading, of_length, number_of, ReadsFrom}
use Rattle.c_lexer.proofs.Numbers.{word_some}
use Rattle.c_lexer.proofs.ReadLexemes.{IsEnd, IsRead}
use Rattle.c_lexer.proofs.ReadWords.{run_text, word_no_gap}

-- ---- the digits of a number

is_digit : (n : ℕ) → n < 10 → is_ascii_digit (48 + n) ≡ true
is_digit n h = grind (arith, nat_tests)

digit_is : (n : ℕ) → n < 10 → digit_value (48 + n) ≡ n
digit_is n h = grind (arith, nat_tests)

both_in : (c : ℕ → Bool) (u v : List ℕ) → AllIn c u → AllIn c v → AllIn c (u ++ v)
both_in c [] v h k = k
both_in c (b ∷ u) v h k = (h.0, both_in c u v h.1 k)

one_behind : (n : ℕ) (ds : List ℕ) (d : ℕ) → value_behind 10 n (ds ++ d ∷ []) ≡ 10 * value_behind 10 n ds + digit_value d
one_behind n [] d = refl
one_behind n (b ∷ ds) d = one_behind (10 * n + digit_value b) ds d

pub record AreDigits (n : ℕ) (ds : List ℕ) : Type 0 where
  pub all : AllIn (in_class Digit) ds
  pub value : value_behind 10 0 ds ≡ n

one_digit : (n : ℕ) → n < 10 → AreDigits n ((48 + n) ∷ [])
one_digit n h = record { all = (is_digit n h, tt); value = (let e = digit_is n h in omega arith) }

below_ten : (n : ℕ) → n % 10 < 10
below_ten n = omega arith

more_digits : (n : ℕ) (ds : List ℕ) → 10 ≤ n → AreDigits (n / 10) ds → AreDigits n (ds ++ ((48 + n % 10) ∷ []))
more_digits n ds l h = record {
  all = both_in (in_class Digit) ds ((48 + n % 10) ∷ []) h.all (is_digit (n % 10) (below_ten n), tt);
  value = (
      let a = one_behind 0 ds (48 + n % 10) in
      let b = digit_is (n % 10) (below_ten n) in
      let c = h.value in
      omega arith);
}

are_digits : (n : ℕ) → n < 2 ^ 64 → AreDigits n (decimal n)
are_digits n h = decimal_by_steps (λ m ds. AreDigits m ds) one_digit more_digits n h

-- ---- what they denote, with a suffix

behind_text : (c : ℕ → Bool) (w z : List ℕ) → AllIn c w → StopsIn c z → behind c (w ++ z) ≡ z
behind_text c [] [] a s = refl
behind_text c [] (b ∷ bs) a s = rw s refl
behind_text c (x ∷ w) z a s = rw a.0 (behind_text c w z a.1 s)

suffix_stops : (kind : IntKind) → StopsIn (in_class Digit) (kind_text kind)
suffix_stops Int = tt
suffix_stops Unsigned = refl
suffix_stops Long = refl
suffix_stops UnsignedLong = refl

fits_word : (v : ℕ) (kind : IntKind) → nat_le v (greatest kind) ≡ true → v ≤ 4294967295
fits_word v Int h = grind (arith, nat_tests)
fits_word v Unsigned h = grind (arith, nat_tests)
fits_word v Long h = grind (arith, nat_tests)
fits_word v UnsignedLong h = grind (arith, nat_tests)

decimal_class : (v : ℕ) (kind : IntKind) → nat_le v (greatest kind) ≡ true → integer_class true (Some v) (suffix_of (kind_text kind)) ≡ Some (class.Integer v kind)
decimal_class v Int h = rw h refl
decimal_class v Unsigned h = rw h refl
decimal_class v Long h = rw h refl
decimal_class v UnsignedLong h = rw h refl

decimal_in : (ds after : List ℕ) (d v : ℕ) → number_in 10 (d ∷ ds) ≡ Some v → integer_in 10 (d ∷ ds) after ≡ integer_class true (Some v) (suffix_of after)
decimal_in ds after d v h = ap (λ o. integer_class true o (suffix_of after)) h

no_zero_first : (a : ℕ) → 48 < a → (a == 48) ≡ false
no_zero_first a h = grind (arith, nat_tests)

starts_decimal : (a : ℕ) (bs : List ℕ) → 48 < a → integer_of (a ∷ bs) ≡ integer_in 10 (run (in_class Digit) (a ∷ bs)) (behind (in_class Digit) (a ∷ bs))
starts_decimal a bs h = rw (no_zero_first a h) refl

decimal_integer : (v : ℕ) (kind : IntKind) (ds : List ℕ) → nat_le v (greatest kind) ≡ true → 48 < get_or ds 0 0 → AreDigits v ds → integer_of (ds ++ kind_text kind) ≡ Some (class.Integer v kind)
decimal_integer v kind [] g f h = absurd (omega arith)
decimal_integer v kind (a ∷ bs) g f h =
    let k = kind_text kind in
    let s = suffix_stops kind in
    starts_decimal a (bs ++ k) f
    ∙ ap (λ z. integer_in 10 z (behind (in_class Digit) ((a ∷ bs) ++ k))) (run_text (in_class Digit) (a ∷ bs) k h.all s)
    ∙ ap (λ z. integer_in 10 (a ∷ bs) z) (behind_text (in_class Digit) (a ∷ bs) k h.all s)
    ∙ decimal_in bs k a v (ap in_word h.value ∙ sym (word_some v (fits_word v kind g)))
    ∙ decimal_class v kind g

zero_integer : (kind : IntKind) → integer_of (48 ∷ kind_text kind) ≡ Some (class.Integer 0 kind)
zero_integer Int = refl
zero_integer Unsigned = refl
zero_integer Long = refl
zero_integer UnsignedLong = refl

word_bound : (v : ℕ) → v ≤ 4294967295 → v < 2 ^ 64
word_bound v h = omega arith

is_integer : (v : ℕ) (kind : IntKind) → nat_le v (greatest kind) ≡ true → integer_of (decimal v ++ kind_text kind) ≡ Some (class.Integer v kind)
is_integer zero kind g = ap (λ z. integer_of (z ++ kind_text kind)) (decimal_digit 0 (omega arith)) ∙ zero_integer kind
is_integer (suc v) kind g =
    let b = word_bound (suc v) (fits_word (suc v) kind g) in
    decimal_integer (suc v) kind (decimal (suc v)) g (first_decimal (suc v) (omega arith) b) (are_digits (suc v) b)

-- ---- the whole text is one token

digit_constant : (b : ℕ) → in_class Digit b ≡ true → in_lex Constant b ≡ true
digit_constant b h = grind (arith, nat_tests)

digits_constant : (ds : List ℕ) → AllIn (in_class Digit) ds → AllIn (in_lex Constant) ds
digits_constant [] h = tt
digits_constant (d ∷ ds) h = (digit_constant d h.0, digits_constant ds h.1)

suffix_constant : (kind : IntKind) → AllIn (in_lex Constant) (kind_text kind)
suffix_constant Int = tt
suffix_constant Unsigned = (refl, tt)
suffix_constant Long = (refl, tt)
suffix_constant UnsignedLong = (refl, (refl, tt))

constant_stops : (z : List ℕ) → IsEnd z → StopsIn (in_lex Constant) z
constant_stops [] e = tt
constant_stops (b ∷ bs) e = rw e refl

digit_name : (b : ℕ) → in_class Digit b ≡ true → in_class NameBytes b ≡ true
digit_name b h = grind (arith, nat_tests)

starts_digit : (b : ℕ) (bs : List ℕ) → is_ascii_digit b ≡ true → start_of (b ∷ bs) ≡ start.Constant
starts_digit b bs h = rw h refl

digits_start : (ds z : List ℕ) → 0 < length ds → AllIn (in_class Digit) ds → start_of (ds ++ z) ≡ start.Constant
digits_start [] z l h = absurd (omega arith)
digits_start (d ∷ ds) z l h = starts_digit d (ds ++ z) h.0

digits_no_gap : (ds z : List ℕ) (p : Place) → 0 < length ds → AllIn (in_class Digit) ds → behind_gap (ds ++ z) p ≡ None
digits_no_gap [] z p l h = absurd (omega arith)
digits_no_gap (d ∷ ds) z p l h = word_no_gap d (ds ++ z) p (digit_name d h.0)

integer_text : (v : ℕ) (kind : IntKind) (ds z : List ℕ) → 0 < length ds → AllIn (in_class Digit) ds → integer_of (ds ++ kind_text kind) ≡ Some (class.Integer v kind) → IsEnd z → IsRead (Lexemes.Integer v kind) (ds ++ kind_text kind) z
integer_text v kind ds z l h i e =
    let t = ds ++ kind_text kind in
    let r : Reading = Ok (Some (class.Integer v kind, length t)) in
    let f : run (in_lex Constant) (t ++ z) ≡ t = run_text (in_lex Constant) t z (both_in (in_lex Constant) ds (kind_text kind) (digits_constant ds h) (suffix_constant kind)) (constant_stops z e) in
    let n : number_of (run (in_lex Constant) (t ++ z)) ≡ r = ap number_of f ∙ ap (λ o. of_length (class_or_fault o (is_floating t)) (length t)) i in
    let a : (ds ++ kind_text kind) ++ z ≡ ds ++ (kind_text kind ++ z) = append_assoc ds (kind_text kind) z in
    record {
      class = class.Integer v kind;
      no_gap = λ p. ap (λ y. behind_gap y p) a ∙ digits_no_gap ds (kind_text kind ++ z) p l h;
      reads = subst (λ k. ReadsFrom k (t ++ z) r) (sym (ap start_of a ∙ digits_start ds (kind_text kind ++ z) l h)) (sym n);
      lexeme = refl;
    }

pub read_integer : (v : ℕ) (kind : IntKind) (z : List ℕ) → nat_le v (greatest kind) ≡ true → IsEnd z → IsRead (Lexemes.Integer v kind) (decimal v ++ kind_text kind) z
read_integer v kind z g e =
    let b = word_bound v (fits_word v kind g) in
    integer_text v kind (decimal v) z (decimal_nonempty v b) (are_digits v b).all (is_integer v kind g) e
