-- What it means to take the least from a queue.
use Rattle.std.specs.Prelude.{ℕ, ◌≡◌, List, Option, Some, None, slice_index_or, slice_set}
use Rattle.place_queue.specs.declared.key.Key.{Key}
use Rattle.place_queue.specs.Leq.{Leq}

-- a place whose key is none greater than any other's no longer waits, or nothing waited and nothing changes
abbrev pub Takes : List (Option Key) → Option (ℕ × Key) → List (Option Key) → Type 0
Takes old None new = ((n : ℕ) → slice_index_or old n None ≡ None) × (new ≡ old)
Takes old (Some least) new =
    (slice_index_or old least.0 None ≡ Some least.1)
    × ((m : ℕ) (k : Key) → slice_index_or old m None ≡ Some k → Leq least.1 k)
    × (new ≡ slice_set old least.0 None)
