-- How many numbers below a bound have a property.
use Rattle.std.specs.Prelude.{ℕ, ◌+◌}

pub data Counted (Has : ℕ → Type 0) : ℕ → ℕ → Type 0 where
  NoNumber : Counted Has 0 0
  One : {n many : ℕ} → Has n → Counted Has n many → Counted Has (n + 1) (many + 1)
  Other : {n many : ℕ} → (Has n → ⊥) → Counted Has n many → Counted Has (n + 1) many
