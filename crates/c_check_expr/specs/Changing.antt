-- What assignments, `++` and `--` break first, and how they change a place. Source: C89 3.3.16, 3.3.2.4, 3.3.3.1.
use Rattle.std.specs.Prelude.{ℕ, Bool, false, not, List, Option, Some, None, if◌then◌else◌}
use Rattle.c_ast.specs.declared.operator.AssignOperator.{AssignOperator}
use Rattle.c_ast.specs.declared.operator.AssignOperator.TheVariants as assign
use Rattle.c_types.specs.Layout.{Tag}
use Rattle.c_meaning.specs.CoreTrees.{type_of}
use Rattle.c_meaning.specs.ExprConstraints.{assigns_no_move, can_assign, can_be_stepped, is_assignable, is_modifiable, moves_nowhere}
use Rattle.c_meaning.specs.Values.{CoreTree, value, value_type}

-- the first constraint that `++` or `--` of this breaks
abbrev pub step_broken : List Tag → CoreTree → Option ℕ
step_broken tags a =
    if not (is_modifiable tags a) then Some 34
    else if not (can_be_stepped (type_of a)) then Some 40
    else if moves_nowhere tags (type_of a) then Some 41
    else None

-- the right side of `=` isn't assignable
abbrev pub is_unfit : AssignOperator → CoreTree → CoreTree → Bool
is_unfit assign.Plain a b = not (is_assignable (type_of a) (value b))
is_unfit op a b = false

-- the first constraint that an assignment breaks
abbrev pub assign_broken : List Tag → AssignOperator → CoreTree → CoreTree → Option ℕ
assign_broken tags op a b =
    if not (is_modifiable tags a) then Some 34
    else if not (can_assign op (type_of a) (value_type b)) then Some 40
    else if assigns_no_move tags op (type_of a) then Some 41
    else if is_unfit op a b then Some 45
    else None
