-- What contracts see of an arena.
use Rattle.std.specs.Prelude.{ℕ, List, refl}
use Rattle.std.specs.Coded.{Coded, code_by, coded×, coded_list, coded_ℕ}

-- the values in the order of their ids, and how many more there is room for
pub record Values (T : Type 0) : Type 0 where
  pub values : List T
  pub spare : ℕ

-- the arena with these values and this room
abbrev pub arena_of : {T : Type 0} → List T → ℕ → Values T
arena_of values spare = record { values = values; spare = spare }

-- it is stored as the pair of its fields
abbrev pub values_code : {T : Type 0} → Coded T → Coded (Values T)
values_code {T} code =
    code_by (List T × ℕ) (coded× (coded_list code) coded_ℕ) (λ a. (a.values, a.spare)) (λ p. arena_of p.0 p.1) (λ _. refl)
