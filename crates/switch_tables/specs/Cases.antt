-- The cases of a switch, whose numbers are words of 32 bits.
-- Source: ISO/IEC 9899:1990, 6.6.4.2.
use Rattle.std.specs.Prelude.{ℕ, ◌==◌, ◌<◌, ◌^◌, List, [], ◌∷◌, if◌then◌else◌}
use Rattle.std.specs.List.{AllByRecursion}
use Rattle.c_meaning.specs.declared.core_stmt.CoreCase.{CoreCase}

-- the label of the first case with the number, else the default's
abbrev pub label_of : List CoreCase → ℕ → ℕ → ℕ
label_of [] default n = default
label_of (c ∷ cs) default n = if c.number == n then c.label else label_of cs default n

abbrev pub AreWords : List CoreCase → Type 0
AreWords cases = AllByRecursion (λ c. c.number < 2 ^ 32) cases
