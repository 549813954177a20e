-- What forming values tells of the limit on depth.
use Rattle.std.specs.Prelude.{◌≡◌, ℕ, true, List}
use Rattle.lcc_base.specs.declared.which.Which.TheVariants as which
use Rattle.c_types.specs.CType.{CType}
use Rattle.c_meaning.specs.Constraints.{some_deep}
use Rattle.c_values.specs.declared.check_fault.CheckFault.{CheckFault}
use Rattle.c_values.specs.declared.check_fault.CheckFault.TheVariants.{Constraint, Limit, Memory}

-- one of these types, which a construct on this line forms, passes the limit
abbrev pub AreTooDeep : CheckFault → ℕ → List CType → Type 0
AreTooDeep (Constraint number place) line ts = ⊥
AreTooDeep (Limit limit place) line ts = (limit ≡ which.Depth) × ((place ≡ line) × (some_deep ts ≡ true))
AreTooDeep Memory line ts = Unit {0}
