-- The longest front of a list that a class of bytes makes, and what stands behind it.
use Rattle.std.specs.Prelude.{ℕ, Bool, List, [], ◌∷◌, if◌then◌else◌}

abbrev pub run : (ℕ → Bool) → List ℕ → List ℕ
run class [] = []
run class (b ∷ bs) = if class b then b ∷ run class bs else []

abbrev pub behind : (ℕ → Bool) → List ℕ → List ℕ
behind class [] = []
behind class (b ∷ bs) = if class b then behind class bs else b ∷ bs
