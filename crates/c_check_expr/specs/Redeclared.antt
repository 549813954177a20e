-- What a call of an undeclared name tells of a name with linkage.
-- Source: C89 3.3.2.2, 3.1.2.6.
use Rattle.std.specs.Prelude.{◌≡◌, ℕ, Bool, true}
use Rattle.c_values.specs.declared.check_fault.CheckFault.{CheckFault}
use Rattle.c_values.specs.declared.check_fault.CheckFault.TheVariants.{Constraint, Limit, Memory}

-- the name was declared as something else than a function with result int
abbrev pub IsRedeclared : CheckFault → ℕ → Bool → Type 0
IsRedeclared (Constraint number place) line differs = (number ≡ 6) × ((place ≡ line) × (differs ≡ true))
IsRedeclared (Limit limit place) line differs = ⊥
IsRedeclared Memory line differs = Unit {0}
