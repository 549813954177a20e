-- Decimal numerals, their digits and their values, and the ends of ranges as numerals.
use Rattle.std.proofs.Common.{◌≡◌, ◌≤◌, ◌<◌, ◌+◌, ◌*◌, ◌-◌, ◌/◌, ◌%◌, ◌^◌, ℕ, suc, true, List, [], ◌∷◌, ◌++◌, refl, ap, ◌∙◌, arith}
use Rattle.std.specs.Prelude.{ℤ, pos, negsuc, neg_ℤ, decimal}
use Rattle.std.proofs.lemmas.Bool.Decides.{nat_tests}
use Rattle.std.proofs.lemmas.Fmt.{decimal_by_steps}
use Rattle.std.proofs.lemmas.Int.{ints}
use Rattle.lcc_text.specs.declared.class.Class.TheVariants.{Digit}
use Rattle.lcc_text.specs.Classes.{in_class, AllIn, StartsIn}
use Rattle.lcc_text.specs.Decimal.{value_behind, value_of}
use Rattle.lburg_lines.specs.Tokens.{IsToken}
use Rattle.lburg_lines.specs.Numbers.{IsNumber, number_token, number_value}
use Rattle.lburg_model.specs.Range.{IsEnd}
use Rattle.lburg_grammar.proofs.PrintedParts.{number_in}

behind_append : (n : ℕ) (xs ys : List ℕ) → value_behind n (xs ++ ys) ≡ value_behind (value_behind n xs) ys
behind_append n [] ys = refl
behind_append n (x ∷ xs) ys = behind_append (10 * n + (x - 48)) xs ys

value_more : (n : ℕ) (ds : List ℕ) → value_of ds ≡ n / 10 → value_of (ds ++ (48 + n % 10) ∷ []) ≡ n
value_more n ds h = behind_append 0 ds ((48 + n % 10) ∷ []) ∙ (let e : 10 * value_of ds + (48 + n % 10 - 48) ≡ n = omega arith in e)

-- a numeral's value is the number
pub value_decimal : (n : ℕ) → n < 2 ^ 64 → value_of (decimal n) ≡ n
value_decimal n h = decimal_by_steps (λ k ds. value_of ds ≡ k) (λ k l. omega arith) (λ k ds l e. value_more k ds e) n h

digit_digit : (d : ℕ) → d < 10 → in_class Digit (48 + d) ≡ true
digit_digit d h = grind (arith, nat_tests)

all_more : (ds : List ℕ) (b : ℕ) → AllIn (in_class Digit) ds → in_class Digit b ≡ true → AllIn (in_class Digit) (ds ++ b ∷ [])
all_more [] b h e = (e, tt)
all_more (d ∷ ds) b h e = (h.0, all_more ds b h.1 e)

starts_more : (ds : List ℕ) (b : ℕ) → StartsIn (in_class Digit) ds → StartsIn (in_class Digit) (ds ++ b ∷ [])
starts_more [] b h = absurd h
starts_more (d ∷ ds) b h = h

-- a numeral is made of digits
pub digits_decimal : (n : ℕ) → n < 2 ^ 64 → StartsIn (in_class Digit) (decimal n) × AllIn (in_class Digit) (decimal n)
digits_decimal n h =
    decimal_by_steps (λ k ds. StartsIn (in_class Digit) ds × AllIn (in_class Digit) ds) (λ k l. (digit_digit k l, (digit_digit k l, tt))) (λ k ds l e. (starts_more ds (48 + k % 10) e.0, all_more ds (48 + k % 10) e.1 (digit_digit (k % 10) (omega arith)))) n h

-- ---- the ends of ranges

most : (n : ℕ) → IsEnd (pos n) → n ≤ 4294967295
most n h = omega (arith, ints)

least : (n : ℕ) → IsEnd (negsuc n) → suc n ≤ 2147483648
least n h = omega (arith, ints)

numeral_value : (n : ℕ) → n ≤ 4294967295 → value_of (decimal n) ≡ n
numeral_value n h = value_decimal n (omega (arith, h))

pub end_value : (z : ℤ) → IsEnd z → number_value (number_in z) ≡ z
end_value (pos n) h = ap pos (numeral_value n (most n h))
end_value (negsuc n) h = ap (λ (v : ℕ). neg_ℤ (pos v)) (numeral_value (suc n) (let k = least n h in omega arith))

pub end_number : (z : ℤ) → IsEnd z → IsNumber (number_in z)
end_number (pos n) h = let k = most n h in let e = numeral_value n k in omega arith
end_number (negsuc n) h = let k = least n h in let e = numeral_value (suc n) (omega arith) in omega arith

pub end_token : (z : ℤ) → IsEnd z → IsToken (number_token (number_in z))
end_token (pos n) h = digits_decimal n (let k = most n h in omega arith)
end_token (negsuc n) h = digits_decimal (suc n) (let k = least n h in omega arith)
