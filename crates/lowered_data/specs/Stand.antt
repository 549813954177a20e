-- What stands in a list from a place on.
use Rattle.std.specs.Prelude.{◌≡◌, ℕ, suc, Some, List, [], ◌∷◌, slice_get}

-- these, one behind the other
abbrev pub Stand : {A : Type 0} → List A → ℕ → List A → Type 0
Stand all from [] = Unit {0}
Stand all from (x ∷ xs) = (slice_get all from ≡ Some x) × Stand all (suc from) xs
