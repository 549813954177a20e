-- Numbers only grow with their digits.
use Rattle.std.proofs.Common.{ℕ, ◌+◌, ◌*◌, ◌-◌, ◌≤◌, List, [], ◌∷◌, arith}
use Rattle.lcc_text.specs.Decimal.{value_behind}

pub grows : (n : ℕ) (bs : List ℕ) → n ≤ value_behind n bs
grows n [] = omega arith
grows n (b ∷ bs) = omega (arith, grows (10 * n + (b - 48)) bs)
