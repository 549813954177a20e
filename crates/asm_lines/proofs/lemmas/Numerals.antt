-- Decimal numerals: their digits and their values.
use Rattle.std.specs.Prelude.{◌≡◌, ◌<◌, ◌+◌, ◌*◌, ◌-◌, ◌/◌, ◌%◌, ◌^◌, ℕ, true, List, [], ◌∷◌, ◌++◌, decimal, refl}
use Rattle.std.proofs.Common.{◌∙◌, arith}
use Rattle.std.proofs.lemmas.Bool.Decides.{nat_tests}
use Rattle.std.proofs.lemmas.Fmt.{decimal_by_steps}
use Rattle.lcc_text.specs.declared.class.Class.TheVariants.{Digit}
use Rattle.lcc_text.specs.Classes.{in_class, AllIn, StartsIn}
use Rattle.lcc_text.specs.Decimal.{value_behind, value_of}

behind_append : (n : ℕ) (xs ys : List ℕ) → value_behind n (xs ++ ys) ≡ value_behind (value_behind n xs) ys
behind_append n [] ys = refl
behind_append n (x ∷ xs) ys = behind_append (10 * n + (x - 48)) xs ys

value_more : (n : ℕ) (ds : List ℕ) → value_of ds ≡ n / 10 → value_of (ds ++ (48 + n % 10) ∷ []) ≡ n
value_more n ds h = behind_append 0 ds ((48 + n % 10) ∷ []) ∙ (let e : 10 * value_of ds + (48 + n % 10 - 48) ≡ n = omega arith in e)

-- a numeral's value is the number
pub value_decimal : (n : ℕ) → n < 2 ^ 64 → value_of (decimal n) ≡ n
value_decimal n h = decimal_by_steps (λ k ds. value_of ds ≡ k) (λ k l. omega arith) (λ k ds l e. value_more k ds e) n h

digit_digit : (d : ℕ) → d < 10 → in_class Digit (48 + d) ≡ true
digit_digit d h = grind (arith, nat_tests)

all_more : (ds : List ℕ) (b : ℕ) → AllIn (in_class Digit) ds → in_class Digit b ≡ true → AllIn (in_class Digit) (ds ++ b ∷ [])
all_more [] b h e = (e, tt)
all_more (d ∷ ds) b h e = (h.0, all_more ds b h.1 e)

starts_more : (ds : List ℕ) (b : ℕ) → StartsIn (in_class Digit) ds → StartsIn (in_class Digit) (ds ++ b ∷ [])
starts_more [] b h = absurd h
starts_more (d ∷ ds) b h = h

-- a numeral is made of digits
pub digits_decimal : (n : ℕ) → n < 2 ^ 64 → StartsIn (in_class Digit) (decimal n) × AllIn (in_class Digit) (decimal n)
digits_decimal n h =
    decimal_by_steps (λ k ds. StartsIn (in_class Digit) ds × AllIn (in_class Digit) ds) (λ k l. (digit_digit k l, (digit_digit k l, tt))) (λ k ds l e. (starts_more ds (48 + k % 10) e.0, all_more ds (48 + k % 10) e.1 (digit_digit (k % 10) (omega arith)))) n h
