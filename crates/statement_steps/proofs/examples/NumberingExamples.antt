-- The labels 7 and 3 have the numbers 0 and 1; any other one that of the end.
use Rattle.std.specs.Prelude.{◌≡◌, ℕ, Some, None, List, [], ◌∷◌}
use Rattle.std.proofs.Common.{refl}
use Rattle.lowered_statements.specs.Functions.{place_in}
use Rattle.statement_steps.specs.Numbering.{ArePlaces, first_among}

abbrev two : List ℕ
two = 7 ∷ 3 ∷ []

two_places : ArePlaces two (λ n. first_among 0 two n)
two_places = record { is = λ n. refl }

is_first : first_among 0 two 7 ≡ Some 0
is_first = refl

is_second : first_among 0 two 3 ≡ Some 1
is_second = refl

is_none : first_among 0 two 5 ≡ None
is_none = refl

first_number : place_in 3 two ≡ 1
first_number = refl

no_number : place_in 5 two ≡ 2
no_number = refl
