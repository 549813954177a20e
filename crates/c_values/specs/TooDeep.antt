-- A pointer that would pass the limit on depth.
use Rattle.std.specs.Prelude.{◌≡◌, ℕ, true, nat_lt}
use Rattle.lcc_base.specs.declared.which.Which.TheVariants as which
use Rattle.c_types.specs.CType.{CType, depth}
use Rattle.c_values.specs.declared.check_fault.CheckFault.{CheckFault}
use Rattle.c_values.specs.declared.check_fault.CheckFault.TheVariants.{Constraint, Limit, Memory}

-- a pointer of this type would pass the limit on depth
abbrev pub IsTooDeep : CheckFault → ℕ → CType → Type 0
IsTooDeep (Constraint number place) line t = ⊥
IsTooDeep (Limit limit place) line t = (limit ≡ which.Depth) × ((place ≡ line) × (nat_lt 500 (depth t) ≡ true))
IsTooDeep Memory line t = Unit {0}
