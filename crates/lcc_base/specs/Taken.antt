-- How much a whole read took from a source and a whole write gave to a sink, where these tell. The
-- first two arguments are what was left, or what was taken, before the call and after it.
use Rattle.std.specs.Prelude.{◌++◌, ◌+◌, ℕ, ◌≤◌, ◌≡◌, List, length}
use Rattle.std.specs.declared.option.Option.{Option}
use Rattle.std.specs.Io.KnownBytes.{Consumes, Appends}

-- at most this many bytes came from the source
abbrev pub TookAtMost : Option (List ℕ) → Option (List ℕ) → ℕ → Type 0
TookAtMost old new limit = (bytes : List ℕ) × Consumes old new bytes × (length bytes ≤ limit)

-- one byte more than this came from the source
abbrev pub TookOneMore : Option (List ℕ) → Option (List ℕ) → ℕ → Type 0
TookOneMore old new limit = (bytes : List ℕ) × Consumes old new bytes × (length bytes ≡ limit + 1)

-- the sink took some first bytes of these, and no others
abbrev pub TookPrefix : Option (List ℕ) → Option (List ℕ) → List ℕ → Type 0
TookPrefix old new all = (front rest : List ℕ) × (all ≡ front ++ rest) × Appends old new front
