-- Constraints on one kind of nodes, and which is told first at a node.
use Rattle.std.specs.Prelude.{ℕ, ◌||◌, Bool, Option, Some, None, List, [], ◌∷◌, if◌then◌else◌}
use Rattle.lcc_base.specs.declared.which.Which.{Which}
use Rattle.lcc_base.specs.declared.which.Which.TheVariants as which
use Rattle.c_types.specs.CType.{CType}
use Rattle.c_types.specs.Layout.{Tag}
use Rattle.c_meaning.specs.State.{State}
use Rattle.c_meaning.specs.Constraints.{extents, some_large, some_nested, some_deep}

-- a number, and when a node breaks it
pub record ConstraintOn (N : Type 0) : Type 0 where
  pub number : ℕ
  pub is_broken : State → N → Bool

abbrev pub on : {N : Type 0} → ℕ → (State → N → Bool) → ConstraintOn N
on number test = record { number = number; is_broken = test }

abbrev pub first_of : {N : Type 0} → List (ConstraintOn N) → State → N → Option ℕ
first_of [] s n = None
first_of (c ∷ cs) s n = if c.is_broken s n then Some c.number else first_of cs s n

-- the limit that one of these types passes: on its size, or on its depth or nesting
abbrev pub passed_by : List Tag → List CType → Option Which
passed_by tags ts =
    if some_large (extents tags ts) then Some which.Object
    else if some_nested (extents tags ts) || some_deep ts then Some which.Depth
    else None
