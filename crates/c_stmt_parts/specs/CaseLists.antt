-- The cases of a map from numbers to labels.
use Rattle.std.specs.Prelude.{ℕ, List, [], ◌∷◌}
use Rattle.c_meaning.specs.declared.core_stmt.CoreCase.{CoreCase}

abbrev pub cases_in : List (ℕ × ℕ) → List CoreCase
cases_in [] = []
cases_in (e ∷ es) = record { number = e.0; label = e.1 } ∷ cases_in es
