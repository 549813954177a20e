-- Terminals that may be declared together.
use Rattle.std.specs.Prelude.{◌≡◌, ◌≤◌, ℕ, Some, List, length, slice_get}
use Rattle.lburg_model.specs.Description.{AreDistinct}

-- their names and their numbers keep the limits, and none stands twice
pub record AreTerminals (names : List (List ℕ)) (numbers : List ℕ) : Type 0 where
  pub few : length names ≤ 1023
  pub names_once : AreDistinct names
  pub numbers_once : AreDistinct numbers
  pub small : (i n : ℕ) → slice_get numbers i ≡ Some n → n ≤ 2147483647
