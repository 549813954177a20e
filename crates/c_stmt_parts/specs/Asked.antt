-- What is told at a statement's node, and what a statement takes of an expression, as contracts speak of it.
use Rattle.std.specs.Prelude.{◌≡◌, ◌||◌, not, ℕ, Option, Some, None, List, if◌then◌else◌}
use Rattle.c_types.specs.CType.{CType, unqualified}
use Rattle.c_types.specs.Layout.{Tag}
use Rattle.c_types.specs.Table.{Table, tags, type_at}
use Rattle.c_meaning.specs.CoreTrees.{CoreOf}
use Rattle.c_meaning.specs.State.{State}
use Rattle.c_meaning.specs.StmtTrees.{maybe_seen}
use Rattle.c_meaning.specs.ExprConstraints.{is_assignable}
use Rattle.c_meaning.specs.Types.{is_scalar, is_void}
use Rattle.c_meaning.specs.Values.{CoreTree, value, value_type}
use Rattle.c_values.specs.declared.check_fault.CheckFault.{CheckFault}
use Rattle.c_check_expr.specs.StepFaults.{IsFault}
use Rattle.c_units.specs.Statements.{StmtNode, is_nothing, stmt_fault}

-- nothing is told at the node, where a table tells what structures there are
abbrev pub IsSound : Table → ℕ → StmtNode → Type 0
IsSound t line n = (s : State) → s.tags ≡ tags t → stmt_fault s line n ≡ None

-- this is told
abbrev pub IsToldAt : Table → ℕ → StmtNode → CheckFault → Type 0
IsToldAt t line n e = (s : State) → s.tags ≡ tags t → IsFault e (stmt_fault s line n)

abbrev pub maybe_core : Table → Option (CoreOf ℕ) → Option CoreTree
maybe_core t e = maybe_seen (type_at t) e

-- the first constraint that a test breaks
abbrev pub test_broken : List Tag → CoreTree → Option ℕ
test_broken tags e = if is_nothing tags (value_type e) then Some 46 else if is_scalar (value_type e) then None else Some 47

abbrev pub maybe_test_broken : List Tag → Option CoreTree → Option ℕ
maybe_test_broken tags None = None
maybe_test_broken tags (Some e) = test_broken tags e

-- the first that a return of a value breaks in a function with this result
abbrev pub return_broken : List Tag → CType → CoreTree → Option ℕ
return_broken tags result e =
    if is_nothing tags (value_type e) then Some 46
    else if is_void result || not (is_assignable (unqualified result) (value e)) then Some 51
    else None
