-- What a sink in memory is: the bytes that were taken, how often it was written, the numbers of the
-- writes that fail (the first write is 1), and how many have failed.
use Rattle.std.specs.Prelude.{ℕ, List}

pub record MemSinkState : Type 0 where
  pub taken : List ℕ
  pub writes : ℕ
  pub failing : List ℕ
  pub faults : ℕ
