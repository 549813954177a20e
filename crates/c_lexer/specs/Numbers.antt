-- The number that digits write in a base, the most significant first.
-- Source: C89 3.1.3.2.
use Rattle.std.specs.Prelude.{ℕ, ◌+◌, ◌*◌, ◌-◌, List, [], ◌∷◌, Option, Some, None, nat_le, if◌then◌else◌}
use Rattle.std.specs.Char.{is_ascii_digit}

-- letters from `a` or `A` are 10 and more
abbrev pub digit_value : ℕ → ℕ
digit_value b = if is_ascii_digit b then b - 48 else (if nat_le 97 b then b - 87 else b - 55)

-- the number of these digits, behind digits of the number n
abbrev pub value_behind : ℕ → ℕ → List ℕ → ℕ
value_behind base n [] = n
value_behind base n (b ∷ bs) = value_behind base (base * n + digit_value b) bs

-- the number, where 32 bits hold it
abbrev pub in_word : ℕ → Option ℕ
in_word n = if nat_le n 4294967295 then Some n else None

abbrev pub number_in : ℕ → List ℕ → Option ℕ
number_in base digits = in_word (value_behind base 0 digits)
