-- What is told of the steps of a declarator, from the type of its specifiers on, and of a parameter.
-- Source: C89 3.5.4, 3.5.4.3.
use Rattle.std.specs.Prelude.{◌≡◌, ◌||◌, ◌&&◌, ℕ, nat_lt, Bool, true, List, Option, Some, None, is_some, not, if◌then◌else◌}
use Rattle.lcc_base.specs.declared.which.Which.{Which}
use Rattle.lcc_base.specs.declared.which.Which.TheVariants as which
use Rattle.c_ast.specs.declared.specifier.Storage.{Storage as StorageClass}
use Rattle.c_types.specs.CType.{CType, depth}
use Rattle.c_types.specs.Layout.{Tag, extent}
use Rattle.c_types.specs.Table.{is_above}
use Rattle.c_meaning.specs.Constraints.{Fault, Breaks, Passes, broken_or, has_many}
use Rattle.c_meaning.specs.Nodes.{Step}
use Rattle.c_meaning.specs.TypeConstraints.{some_step, is_bad_size, is_bad_element, is_bad_result, is_name_list, is_other_class}
use Rattle.c_meaning.specs.Types.{is_void}
use Rattle.c_meaning.specs.TypeRows.{formed_by}
use Rattle.c_values.specs.declared.check_fault.CheckFault.{CheckFault}
use Rattle.c_values.specs.declared.check_fault.CheckFault.TheVariants.{Constraint, Limit, Memory}

-- the type passes the limit on depth and nesting
abbrev pub is_deep : List Tag → CType → Bool
is_deep tags t = nat_lt 500 (extent tags t).nesting || nat_lt 500 (depth t)

-- a step forms a type that is too large, or too deep; it has too many parameters
abbrev pub is_large_step : List Tag → CType → Step → Bool
is_large_step tags t p = is_above (extent tags (formed_by p t)).size

abbrev pub is_deep_step : List Tag → CType → Step → Bool
is_deep_step tags t p = is_deep tags (formed_by p t)

abbrev pub is_many_step : CType → Step → Bool
is_many_step t p = has_many p

abbrev pub steps_broken : List Tag → CType → List Step → Option ℕ
steps_broken tags base ps =
    if some_step is_bad_size base ps then Some 13
    else if some_step (is_bad_element tags) base ps then Some 14
    else if some_step is_bad_result base ps then Some 15
    else if some_step is_name_list base ps then Some 19
    else None

abbrev pub steps_passed : List Tag → CType → List Step → Option Which
steps_passed tags base ps =
    if some_step (is_large_step tags) base ps then Some which.Object
    else if some_step (is_deep_step tags) base ps then Some which.Depth
    else if some_step is_many_step base ps then Some which.Parameters
    else None

abbrev pub steps_fault : List Tag → ℕ → CType → List Step → Option Fault
steps_fault tags line base ps = broken_or line (steps_broken tags base ps) (steps_passed tags base ps)

-- the fault is this one; want of memory says nothing of it
abbrev pub IsFault : CheckFault → Option Fault → Type 0
IsFault (Constraint number line) f = f ≡ Some (Breaks number line)
IsFault (Limit limit line) f = f ≡ Some (Passes limit line)
IsFault Memory f = Unit {0}

-- it tells that something passes the limit on depth, at this line
abbrev pub IsPassedDepth : CheckFault → ℕ → Bool → Type 0
IsPassedDepth (Constraint number place) line b = ⊥
IsPassedDepth (Limit limit place) line b = (limit ≡ which.Depth) × ((place ≡ line) × (b ≡ true))
IsPassedDepth Memory line b = Unit {0}

-- the number of the first constraint that a parameter breaks
abbrev pub parameter_broken : List StorageClass → Option (List ℕ) → CType → Bool → Option ℕ
parameter_broken classes name of alone =
    if is_other_class classes then Some 3
    else if is_void of && (not alone || is_some name) then Some 17
    else None
