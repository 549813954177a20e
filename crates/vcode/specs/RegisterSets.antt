-- Sets of a machine's 64 registers.
use Rattle.std.specs.Prelude.{ℕ, List, [], ◌∷◌, Bool, true, false, replicate, slice_set, get_or}

-- whether the register is in the set
abbrev pub has : List Bool → ℕ → Bool
has members r = get_or members r false

abbrev pub none : List Bool
none = replicate 64 false

-- the set with these registers as well
abbrev pub with_all : List Bool → List ℕ → List Bool
with_all members [] = members
with_all members (r ∷ rs) = with_all (slice_set members r true) rs
