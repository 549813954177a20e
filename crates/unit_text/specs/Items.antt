-- Code as a list of items, which are instructions and labels, and where they stand in a program. A function's labels are
-- numbered.
use Rattle.std.specs.Prelude.{◌≡◌, ℕ, suc, List, [], ◌∷◌, Option, Some, slice_get}

pub data CodeItem (M : Type 0) : Type 0 where
  Line : (instruction : M) → CodeItem M
  Mark : (label : ℕ) → CodeItem M

-- the instructions of items, in order
abbrev pub lines_in : {M : Type 0} → List (CodeItem M) → List M
lines_in [] = []
lines_in (Line i ∷ xs) = i ∷ lines_in xs
lines_in (Mark l ∷ xs) = lines_in xs

-- The items stand at this place of the code: each instruction is there, and each label is found where the next
-- instruction stands.
abbrev pub StandsIn : {M : Type 0} → List M → (ℕ → Option ℕ) → ℕ → List (CodeItem M) → Type 0
StandsIn code found place [] = Unit {0}
StandsIn code found place (Line i ∷ xs) = (slice_get code place ≡ Some i) × StandsIn code found (suc place) xs
StandsIn code found place (Mark l ∷ xs) = (found l ≡ Some place) × StandsIn code found place xs
