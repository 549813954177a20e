-- Decimal numerals.
use Rattle.std.proofs.Common.{◌≡◌, ◌≤◌, ◌<◌, ◌+◌, ◌*◌, ◌-◌, ◌/◌, ◌%◌, ◌^◌, ℕ, true, false, Bool, List, [], ◌∷◌, ◌++◌, refl, sym, ap, ◌∙◌, arith, decimal}
use Rattle.std.specs.Char.{is_ascii_digit}
use Rattle.std.specs.Str.{bytes_eq}
use Rattle.std.proofs.lemmas.Bool.Decides.{nat_tests}
use Rattle.std.proofs.lemmas.Slice.Eq.{bytes_eq-Decides}
use Rattle.std.proofs.lemmas.Fmt.{decimal_by_steps, decimal_injective}
use Rattle.lcc_text.specs.Decimal.{value_behind, value_of}
use Rattle.first_form.specs.Tokens.{starts_with_digit}

behind_append : (n : ℕ) (xs ys : List ℕ) → value_behind n (xs ++ ys) ≡ value_behind (value_behind n xs) ys
behind_append n [] ys = refl
behind_append n (x ∷ xs) ys = behind_append (10 * n + (x - 48)) xs ys

value_more : (n : ℕ) (ds : List ℕ) → value_of ds ≡ n / 10 → value_of (ds ++ (48 + n % 10) ∷ []) ≡ n
value_more n ds h = behind_append 0 ds ((48 + n % 10) ∷ []) ∙ (let e : 10 * value_of ds + (48 + n % 10 - 48) ≡ n = omega arith in e)

-- a numeral's value is the number
pub value_decimal : (n : ℕ) → n < 2 ^ 64 → value_of (decimal n) ≡ n
value_decimal n h = decimal_by_steps (λ k ds. value_of ds ≡ k) (λ k l. omega arith) (λ k ds l e. value_more k ds e) n h

digit_digit : (d : ℕ) → d < 10 → is_ascii_digit (48 + d) ≡ true
digit_digit d h = grind (arith, nat_tests)

digit_more : (ds : List ℕ) (b : ℕ) → starts_with_digit ds ≡ true → starts_with_digit (ds ++ b ∷ []) ≡ true
digit_more [] b h = absurd cc
digit_more (d ∷ ds) b h = h

-- a numeral begins with a digit
pub digit_first : (n : ℕ) → n < 2 ^ 64 → starts_with_digit (decimal n) ≡ true
digit_first n h = decimal_by_steps (λ k ds. starts_with_digit ds ≡ true) (λ k l. digit_digit k l) (λ k ds l e. digit_more ds (48 + k % 10) e) n h

pub unlike : (xs ys : List ℕ) (r : Bool) → r ≡ bytes_eq xs ys → r ≡ false → xs ≡ ys → ⊥
unlike xs ys r e f g = let t : bytes_eq xs ys ≡ true = (bytes_eq-Decides xs ys).1 g in cc

-- a token that writes a greater number is no numeral of one within the limit
pub too_great : (t : List ℕ) (limit n : ℕ) → limit ≤ 2 ^ 32 → limit < value_of t → n ≤ limit → t ≡ decimal n → ⊥
too_great t limit n b l h e = let f : value_of t ≡ n = ap value_of e ∙ value_decimal n (omega arith) in omega arith

-- nor is one that isn't the numeral of its value
pub not_numeral : (t text : List ℕ) (r : Bool) (limit v n : ℕ) → limit ≤ 2 ^ 32 → v ≡ value_of t → text ≡ decimal v → r ≡ bytes_eq text t → r ≡ false → n ≤ limit → t ≡ decimal n → ⊥
not_numeral t text r limit v n b d w e f h g =
    let k : v ≡ n = d ∙ ap value_of g ∙ value_decimal n (omega arith) in
    unlike text t r e f (w ∙ ap decimal k ∙ sym g)

-- a numeral is of one number
pub decimal_same : (m n : ℕ) → m ≤ 2147483647 → n ≤ 2147483647 → decimal m ≡ decimal n → m ≡ n
decimal_same m n h k e = decimal_injective m n (omega arith) (omega arith) e
