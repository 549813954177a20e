-- The number that decimal digits write, the most significant first.
use Rattle.std.specs.Prelude.{ℕ, ◌+◌, ◌*◌, ◌-◌, List, [], ◌∷◌}

-- the number of these digits, behind digits of that number
abbrev pub value_behind : ℕ → List ℕ → ℕ
value_behind n [] = n
value_behind n (b ∷ bs) = value_behind (10 * n + (b - 48)) bs

abbrev pub value_of : List ℕ → ℕ
value_of digits = value_behind 0 digits
