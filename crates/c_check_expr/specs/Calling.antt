-- What calls and commas break first, and values that are too deep. Source: C89 3.3.2.2, 3.3.17.
use Rattle.std.specs.Prelude.{ℕ, not, ◌&&◌, ◌||◌, List, Option, Some, None, if◌then◌else◌}
use Rattle.c_types.specs.Layout.{Tag}
use Rattle.c_meaning.specs.ExprConstraints.{all_passable, are_as_many, are_assignable, is_open_record}
use Rattle.c_meaning.specs.Rows.{called, parameters_type, result_type}
use Rattle.c_meaning.specs.Types.{is_function, is_pointer}
use Rattle.c_meaning.specs.Values.{CoreTree, CoreTrees, value, value_type, values}

-- the first constraint that a call breaks
abbrev pub call_broken : List Tag → CoreTree → CoreTrees → Option ℕ
call_broken tags f arguments =
    if not (is_pointer (value_type f) && is_function (called (value f))) || is_open_record tags (result_type (called (value f))) then Some 29
    else if not (are_as_many (parameters_type (called (value f))) (values arguments)) then Some 30
    else if not (are_assignable (parameters_type (called (value f))) (values arguments) && all_passable tags (values arguments)) then Some 31
    else None
