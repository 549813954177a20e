-- Names in the order of their first uses.
use Rattle.std.specs.Prelude.{◌≡◌, ◌<◌, ℕ, Some, List, slice_get}
use Rattle.lburg_model.specs.Description.{AreDistinct}

-- each name that is used, once: where one stands before another, it is used before the other is
pub record AreFirsts (uses names : List (List ℕ)) : Type 0 where
  pub once : AreDistinct names
  pub noted : (j : ℕ) (a : List ℕ) → slice_get uses j ≡ Some a → (n : ℕ) × (slice_get names n ≡ Some a)
  pub used : (n : ℕ) (a : List ℕ) → slice_get names n ≡ Some a → (j : ℕ) × (slice_get uses j ≡ Some a)
  pub in_order : (j m n : ℕ) (a b : List ℕ) → slice_get uses j ≡ Some a → slice_get names m ≡ Some a → slice_get names n ≡ Some b → n < m → (i : ℕ) × (i < j) × (slice_get uses i ≡ Some b)

-- no name stands among both
abbrev pub AreApart : List (List ℕ) → List (List ℕ) → Type 0
AreApart xs ys = (i j : ℕ) (name : List ℕ) → slice_get xs i ≡ Some name → slice_get ys j ≡ Some name → ⊥
