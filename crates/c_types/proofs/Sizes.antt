-- A size that is bounded where it is known.
use Rattle.std.proofs.Common.{ℕ, ◌≤◌, arith}
use Rattle.std.specs.Prelude.{Option, Some, None, IfSome}
use Rattle.std.specs.Option.{unwrap_or}

pub or_zero_bound : (o : Option ℕ) → IfSome o (λ n. n ≤ 16777216) → unwrap_or o 0 ≤ 16777216
or_zero_bound None h = omega arith
or_zero_bound (Some n) h = h
