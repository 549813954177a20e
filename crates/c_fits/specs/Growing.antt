-- Definitions of structures and unions that grow: what was defined before stays as it is.
-- Source: C89 3.5.2.1, 3.5.2.3.
use Rattle.std.specs.Prelude.{◌≡◌, ℕ, true, List}
use Rattle.c_types.specs.Layout.{Tag, known}
use Rattle.c_types.specs.Members.{is_defined, member_in}

pub record Grows (old new : List Tag) : Type 0 where
  pub defined : (n : ℕ) → is_defined old n ≡ true → is_defined new n ≡ true
  pub extents : (n : ℕ) → is_defined old n ≡ true → known new n ≡ known old n
  pub members : (n : ℕ) (name : List ℕ) → is_defined old n ≡ true → member_in new n name ≡ member_in old n name
