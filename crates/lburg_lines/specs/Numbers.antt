-- Numbers with a sign, from -2147483648 to 4294967295.
use Rattle.std.specs.Prelude.{◌≤◌, ℕ, ℤ, pos, neg_ℤ, List}
use Rattle.lcc_text.specs.Decimal.{value_of}
use Rattle.lburg_lines.specs.declared.number.SignedNumber.{SignedNumber}
use Rattle.lburg_lines.specs.declared.number.SignedNumber.TheVariants as number
use Rattle.lburg_lines.specs.Tokens.{Tok, Number, Negative}

-- decimal digits, or digits behind a minus sign
pub data MNumber : Type 0 where
  Plain : (digits : List ℕ) → MNumber
  Minus : (digits : List ℕ) → MNumber

abbrev pub written : SignedNumber → MNumber
written (number.Plain digits) = Plain digits.now
written (number.Minus digits) = Minus digits.now

abbrev pub number_token : MNumber → Tok
number_token (Plain digits) = Number digits
number_token (Minus digits) = Negative digits

abbrev pub IsNumber : MNumber → Type 0
IsNumber (Plain digits) = value_of digits ≤ 4294967295
IsNumber (Minus digits) = value_of digits ≤ 2147483648

abbrev pub number_value : MNumber → ℤ
number_value (Plain digits) = pos (value_of digits)
number_value (Minus digits) = neg_ℤ (pos (value_of digits))
