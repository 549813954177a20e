-- Cases in rising order, as signed or unsigned numbers.
-- Source: ISO/IEC 9899:1990, 6.3.8 and 6.6.4.2 (relational operators, switch).
use Rattle.std.specs.Prelude.{ℕ, ◌+◌, ◌%◌, ◌<◌, ◌^◌, Bool, List, [], ◌∷◌, if◌then◌else◌}
use Rattle.std.specs.List.{AllByRecursion}
use Rattle.objects.specs.Arithmetic.{is_less}
use Rattle.c_meaning.specs.declared.core_stmt.CoreCase.{CoreCase}

-- the place of a word in the order of its type, from the least one on
abbrev pub rank : Bool → ℕ → ℕ
rank signed n = if signed then (n + 2 ^ 31) % 2 ^ 32 else n

-- a case among cases in rising order
abbrev pub placed : Bool → CoreCase → List CoreCase → List CoreCase
placed signed c [] = c ∷ []
placed signed c (d ∷ ds) = if is_less signed d.number c.number then d ∷ placed signed c ds else c ∷ d ∷ ds

abbrev pub rising : Bool → List CoreCase → List CoreCase
rising signed [] = []
rising signed (c ∷ cs) = placed signed c (rising signed cs)

-- each number is below those behind it
abbrev pub IsRising : Bool → List CoreCase → Type 0
IsRising signed [] = Unit {0}
IsRising signed (c ∷ cs) = AllByRecursion (λ d. rank signed c.number < rank signed d.number) cs × IsRising signed cs
