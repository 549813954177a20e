-- What a source in memory is: the bytes that are left, how often it was read, the numbers of the
-- reads that fail (the first read is 1), and how many have failed.
use Rattle.std.specs.Prelude.{ℕ, List}

pub record MemSourceState : Type 0 where
  pub left : List ℕ
  pub reads : ℕ
  pub failing : List ℕ
  pub faults : ℕ
