-- Hexadecimal digits, of either case, and the bytes that two of them write.
use Rattle.std.specs.Prelude.{◌≡◌, ◌<◌, ◌≤◌, ◌+◌, ◌*◌, ◌⊎◌, ℕ, List, [], ◌∷◌}

-- the digit writes this value: 0 to 9, and A to F or a to f for 10 to 15
abbrev pub IsDigitOf : ℕ → ℕ → Type 0
IsDigitOf digit value = ((digit ≡ 48 + value) × (value < 10))
    ⊎ ((digit + 10 ≡ 65 + value) × (10 ≤ value) × (value < 16))
    ⊎ ((digit + 10 ≡ 97 + value) × (10 ≤ value) × (value < 16))

-- two digits write this byte, the one that counts more first
abbrev pub IsPairOf : List ℕ → ℕ → Type 0
IsPairOf pair byte = (high low h l : ℕ) × (pair ≡ high ∷ low ∷ []) × IsDigitOf high h × IsDigitOf low l × (byte ≡ h * 16 + l)
